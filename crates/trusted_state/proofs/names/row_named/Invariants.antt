use Rattle.std.proofs.Common.{◌≡◌, length}
use Rattle.keys_roles.specs.Plain.{look_up}
use Rattle.delegations.specs.Views.{row_views}
use Rattle.trust_rules.specs.steps.NamedFiles.{shelf_files}
use Rattle.trusted_state.proofs.names.row_named.Given as goal

abbrev pub invariant-rows : goal.invariant-rows
invariant-rows l = look_up (shelf_files (row_views l.rest)) l.name ≡ look_up (shelf_files (row_views l.rows)) l.name

abbrev pub decreases-rows : goal.decreases-rows
decreases-rows l = length l.rest
