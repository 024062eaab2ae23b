use Rattle.std.proofs.Common.{◌≡◌, ◌≤◌, ◌++◌, length, map}
use Rattle.std.specs.List.{flat_map, AllByRecursion}
use Rattle.limits.specs.Limits.{most_documents}
use Rattle.http_messages.specs.Framing.{Document, CanStand, frame}
use Rattle.http_messages.proofs.framing.read_batch.Given as goal

-- the documents so far, and what is left, are the body
abbrev pub invariant-loop-rest : goal.invariant-loop-rest
invariant-loop-rest l = record {
  each : AllByRecursion CanStand (map {B = Document} (λ d. (d.0, d.1.now)) l.documents.items);
  most : length l.documents.items ≤ most_documents;
  whole : l.fn.body ≡ flat_map frame (map {B = Document} (λ d. (d.0, d.1.now)) l.documents.items) ++ l.rest;
}

abbrev pub decreases-loop-rest : goal.decreases-loop-rest
decreases-loop-rest l = length l.rest
