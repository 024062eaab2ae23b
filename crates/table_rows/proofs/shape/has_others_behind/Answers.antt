use Rattle.std.proofs.Common.{refl}
use Rattle.table_rows.proofs.Firsts.{others_five}
use Rattle.table_rows.proofs.shape.has_others_behind.Goals as goal

pub returns-in-Some-clause-other : goal.returns-in-Some-clause-other
returns-in-Some-clause-other c = λ has other. rw (others_five c.args.schema.now c.in-Some.count has c.in-Some.ensures) refl
