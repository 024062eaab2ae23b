use Rattle.metadata.specs.File.{root_form, timestamp_form, snapshot_form, targets_form, layout_form, link_form}
use Rattle.metadata.proofs.DeniedShapes.{denied_just}
use Rattle.metadata.proofs.laws.denied_shapes.Goals as goal

pub returns-clause-roots : goal.returns-clause-roots
returns-clause-roots c = denied_just root_form

pub returns-clause-timestamps : goal.returns-clause-timestamps
returns-clause-timestamps c = denied_just timestamp_form

pub returns-clause-snapshots : goal.returns-clause-snapshots
returns-clause-snapshots c = denied_just snapshot_form

pub returns-clause-targets : goal.returns-clause-targets
returns-clause-targets c = denied_just targets_form

pub returns-clause-layouts : goal.returns-clause-layouts
returns-clause-layouts c = denied_just layout_form

pub returns-clause-links : goal.returns-clause-links
returns-clause-links c = denied_just link_form
