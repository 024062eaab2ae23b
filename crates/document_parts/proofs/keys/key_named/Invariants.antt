use Rattle.std.proofs.Common.{◌≡◌, length}
use Rattle.keys_roles.specs.Plain.{look_up}
use Rattle.document_parts.specs.steps.Tables.{spelled_rows}
use Rattle.document_parts.proofs.keys.key_named.Given as goal

abbrev pub invariant-rows : goal.invariant-rows
invariant-rows l = look_up (spelled_rows l.fn.rows) l.text ≡ look_up (spelled_rows l.rest) l.text

abbrev pub decreases-rows : goal.decreases-rows
decreases-rows l = length l.rest
