use Rattle.std.proofs.Common.{◌≡◌, length}
use Rattle.keys_roles.specs.Plain.{look_up}
use Rattle.keys_roles.specs.Views.{id_text, rows_view}
use Rattle.layouts.proofs.signing.key_of.Given as goal

abbrev pub invariant-rows : goal.invariant-rows
invariant-rows l = look_up (rows_view l.fn.rows) (id_text l.id) ≡ look_up (rows_view l.rest) (id_text l.id)

abbrev pub decreases-rows : goal.decreases-rows
decreases-rows l = length l.rest
