use Rattle.std.proofs.Common.{refl, ◌∙◌}
use Rattle.std.specs.Ordering.{nat_cmp}
use Rattle.std.specs.Cmp.Lexicographic.{slice_cmp}
use Rattle.delegations.proofs.Places.{before_is}
use Rattle.delegations.proofs.rows.precedes.Goals as goal

pub returns : goal.returns
returns c = c.lt.ensures ∙ before_is c.args.text.now c.args.other.now (slice_cmp nat_cmp c.args.text.now c.args.other.now) refl
