use Rattle.std.proofs.Common.{length}
use Rattle.keys_roles.specs.Rules.{AreDistinct}
use Rattle.document_parts.specs.Parts.{tops_of}
use Rattle.document_parts.specs.steps.Tables.{spelled_rows, texts_view}
use Rattle.document_parts.proofs.keys.are_apart.Given as goal

abbrev pub invariant-ids : goal.invariant-ids
invariant-ids l = record {
  ahead : AreDistinct (tops_of (spelled_rows l.rows) (texts_view l.fn.ids)) → AreDistinct (tops_of (spelled_rows l.rows) (texts_view l.rest));
  back : AreDistinct (tops_of (spelled_rows l.rows) (texts_view l.rest)) → AreDistinct (tops_of (spelled_rows l.rows) (texts_view l.fn.ids));
}

abbrev pub decreases-ids : goal.decreases-ids
decreases-ids l = length l.rest
