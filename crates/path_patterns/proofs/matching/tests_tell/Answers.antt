use Rattle.path_patterns.proofs.TestLaws.{segmented_tells, flat_tells, prefix_tells}
use Rattle.path_patterns.proofs.matching.tests_tell.Goals as goal

pub returns-clause-segmented : goal.returns-clause-segmented
returns-clause-segmented c = segmented_tells

pub returns-clause-flat : goal.returns-clause-flat
returns-clause-flat c = flat_tells

pub returns-clause-prefix : goal.returns-clause-prefix
returns-clause-prefix c = prefix_tells
