use Rattle.std.proofs.Common.{List, ◌++◌, ap, ◌∙◌, String}
use Rattle.std.specs.declared.alloc.Global.{Global}
use Rattle.hash_bins.specs.Bins.{twos}
use Rattle.hash_bins.specs.Views.{texts_view}
use Rattle.hash_bins.proofs.texts.of_two.Goals as goal

pub returns : goal.returns
returns c = c.in_ok-add_all_longer.ensures ∙ ap (λ (xs : List (String Global)). texts_view xs ++ twos) c.new-texts.ensures.items
