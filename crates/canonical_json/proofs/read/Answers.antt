use Rattle.std.proofs.lemmas.Result.{IfOk-weaker, MatchResult-weaker}
use Rattle.canonical_json.specs.View.{view}
use Rattle.canonical_json.proofs.Longest.{fault_by}
use Rattle.canonical_json.proofs.Whole.{whole_sound}
use Rattle.canonical_json.proofs.read.Goals as goal

pub returns-clause-value : goal.returns-clause-value
returns-clause-value c = IfOk-weaker c.whole.result _ _ (λ v h. whole_sound c.args.bytes.now (view v) h) c.whole.ensures.ok

pub returns-clause-fault : goal.returns-clause-fault
returns-clause-fault c = MatchResult-weaker c.whole.result c.whole.ensures.fault (λ x u. u) (λ e h. fault_by c.args.bytes.now e h)
