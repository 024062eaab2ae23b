use Rattle.std.proofs.Common.{rules}
use Rattle.canonical_json.specs.View.{view}
use Rattle.canonical_json.proofs.Judging.{canonical_when_clear}
use Rattle.canonical_json.proofs.write.Goals as goal

pub returns-in-Ok-clause-ok : goal.returns-in-Ok-clause-ok
returns-in-Ok-clause-ok c = (canonical_when_clear (view c.args.value.now) (c.value_fault.ensures.of_code (search rules)) (search rules), c.in-Ok.ensures.ok)
