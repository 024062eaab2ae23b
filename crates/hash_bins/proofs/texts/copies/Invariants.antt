use Rattle.std.proofs.Common.{◌≡◌, ◌++◌, length}
use Rattle.hash_bins.specs.Views.{texts_view}
use Rattle.hash_bins.proofs.texts.copies.Given as goal

abbrev pub invariant-rest : goal.invariant-rest
invariant-rest l = texts_view l.made.items ++ texts_view l.rest ≡ texts_view l.fn.texts

abbrev pub decreases-rest : goal.decreases-rest
decreases-rest l = length l.rest
