use Rattle.trust_rules.proofs.ChainsGoOn.{named, newest, next}
use Rattle.trust_rules.proofs.ShapedOnce.{Shapes}
use Rattle.trust_rules.proofs.laws.chains_go_on.Goals as goal

shapes : (c : goal.After-one_shape) → Shapes
shapes c = record { document = c.one_document.ensures; none = c.one_shape.ensures.none; one = c.one_shape.ensures.one }

pub returns-clause-next : goal.returns-clause-next
returns-clause-next c roots more b old last = next (shapes c) roots more b old last

pub returns-clause-named : goal.returns-clause-named
returns-clause-named c T roots more b old = named (shapes c) T roots more b old

pub returns-clause-newest : goal.returns-clause-newest
returns-clause-newest c T root = newest (shapes c) T root
