use Rattle.std.proofs.Common.{length, map}
use Rattle.std.specs.List.{AllByRecursion, Contains}
use Rattle.document_parts.specs.steps.Tables.{texts_view, spelled_rows}
use Rattle.document_parts.proofs.keys.are_known.Given as goal

abbrev pub invariant-ids : goal.invariant-ids
invariant-ids l = record {
  ahead : AllByRecursion (Contains (map (λ e. e.0) (spelled_rows l.rows))) (texts_view l.fn.ids) → AllByRecursion (Contains (map (λ e. e.0) (spelled_rows l.rows))) (texts_view l.rest);
  back : AllByRecursion (Contains (map (λ e. e.0) (spelled_rows l.rows))) (texts_view l.rest) → AllByRecursion (Contains (map (λ e. e.0) (spelled_rows l.rows))) (texts_view l.fn.ids);
}

abbrev pub decreases-ids : goal.decreases-ids
decreases-ids l = length l.rest
