use Rattle.std.proofs.Common.{List, ◌++◌, ap, sym, ◌∙◌, String}
use Rattle.std.specs.declared.alloc.Global.{Global}
use Rattle.hash_bins.specs.Views.{bins_view, texts_view}
use Rattle.hash_bins.specs.declared.bins.Bin.{Bin as CodeBin}
use Rattle.hash_bins.specs.steps.Sharing.{bins_with}
use Rattle.hash_bins.proofs.Shares.{ended, made_one, named, none_left, too_few}
use Rattle.hash_bins.proofs.bins.bins_of.Goals as goal

pub returns-in_default-split_at_checked : goal.returns-in_default-split_at_checked
returns-in_default-split_at_checked c =
    ended c.args.count c.share-share.result c.numbers.bins.items c.numbers.numbers.now c.numbers.rest.now c.share-share.ensures c.numbers.invariant
    (too_few c.share-share.result c.numbers.numbers.now c.numbers.rest.now c.in_default-split_at_checked.ensures.cases)

pub numbers-preserved : goal.numbers-preserved
numbers-preserved c =
    let share = c.share-share.result in
    let made = c.numbers.bins.items in
    let rest = c.numbers.rest.now in
    let others = c.in-Some.others.now in
    let own = c.in-Some-split_at_checked.own.now in
    let later = c.in-Some-split_at_checked.later.now in
    let cut = c.in-Some-split_at_checked.ensures.cases in
    let is = c.in_ok-bin_of.ensures ∙ ap (named own) c.as_str.ensures.value in
    ap (λ (bs : List CodeBin). bins_view bs ++ bins_with share (texts_view others) (texts_view later)) c.in_ok-push.ensures.items
    ∙ made_one share made c.in_ok-bin_of.field-0 c.in-Some.number.now others rest own later cut.0 cut.1 cut.2 is
    ∙ ap (λ (ns : List (String Global)). bins_view made ++ bins_with share (texts_view ns) (texts_view rest)) (sym c.in-Some.ensures.cases.0)
    ∙ c.numbers.invariant

pub returns : goal.returns
returns c =
    ended c.args.count c.share-share.result c.numbers.bins.items c.numbers.numbers.now c.numbers.rest.now c.share-share.ensures c.numbers.invariant
    (none_left c.share-share.result c.numbers.numbers.now c.numbers.rest.now c.in_default.ensures.cases)
