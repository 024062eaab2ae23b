use Rattle.std.proofs.Common.{sym, subst}
use Rattle.table_rows.specs.steps.Loading.{IsBlobRow}
use Rattle.table_rows.proofs.FourLemmas.{one_held}
use Rattle.table_rows.proofs.fours.Fours.keep.Goals as goal

pub returns : goal.returns
returns c rows row reads fits come =
    one_held rows _ _ _ _ row (c.args.named, c.in_ok-kept.kept) (subst (λ b. IsBlobRow row (c.args.named, b)) (sym c.in_ok-kept.ensures.items) reads, fits) c.in_ok-push.ensures.items come
