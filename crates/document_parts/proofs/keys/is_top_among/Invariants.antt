use Rattle.std.proofs.Common.{length}
use Rattle.keys_roles.specs.steps.Counting.{IsIn}
use Rattle.document_parts.specs.Parts.{tops_of}
use Rattle.document_parts.specs.steps.Tables.{spelled_rows, texts_view}
use Rattle.document_parts.proofs.keys.is_top_among.Given as goal

abbrev pub invariant-ids : goal.invariant-ids
invariant-ids l = record {
  ahead : IsIn (tops_of (spelled_rows l.rows) (texts_view l.fn.ids)) l.top → IsIn (tops_of (spelled_rows l.rows) (texts_view l.rest)) l.top;
  back : IsIn (tops_of (spelled_rows l.rows) (texts_view l.rest)) l.top → IsIn (tops_of (spelled_rows l.rows) (texts_view l.fn.ids)) l.top;
}

abbrev pub decreases-ids : goal.decreases-ids
decreases-ids l = length l.rest
