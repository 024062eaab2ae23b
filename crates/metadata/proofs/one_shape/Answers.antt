use Rattle.metadata.proofs.OneDocument.{document-no-fault, fault-once}
use Rattle.metadata.proofs.one_shape.Goals as goal

pub returns-clause-none : goal.returns-clause-none
returns-clause-none c = document-no-fault c.one_spelling.ensures.one_value

pub returns-clause-one : goal.returns-clause-one
returns-clause-one c = fault-once c.one_spelling.ensures.one_value
