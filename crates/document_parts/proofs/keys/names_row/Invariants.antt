use Rattle.std.proofs.Common.{length, map}
use Rattle.keys_roles.specs.steps.Counting.{IsIn}
use Rattle.document_parts.specs.steps.Tables.{spelled_rows}
use Rattle.document_parts.proofs.keys.names_row.Given as goal

abbrev pub invariant-rows : goal.invariant-rows
invariant-rows l = record {
  ahead : IsIn (map (λ e. e.0) (spelled_rows l.fn.rows)) l.text → IsIn (map (λ e. e.0) (spelled_rows l.rest)) l.text;
  back : IsIn (map (λ e. e.0) (spelled_rows l.rest)) l.text → IsIn (map (λ e. e.0) (spelled_rows l.fn.rows)) l.text;
}

abbrev pub decreases-rows : goal.decreases-rows
decreases-rows l = length l.rest
