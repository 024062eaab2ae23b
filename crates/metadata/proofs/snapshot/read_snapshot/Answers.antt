use Rattle.std.proofs.Common.{ℕ, List, ◌++◌, codes, refl, inr}
use Rattle.canonical_json.specs.View.{view}
use Rattle.document_parts.specs.Bodies.{IsMetaRow}
use Rattle.document_parts.specs.Documents.{MetaFile}
use Rattle.metadata.specs.steps.Entries.{rows_view}
use Rattle.document_parts.specs.Views.{meta_view}
use Rattle.document_parts.specs.declared.documents.Meta.{Meta}
use Rattle.document_parts.proofs.Halving.{members_in_order, seen_in_order}
use Rattle.metadata.proofs.snapshot.read_snapshot.Goals as goal

abbrev file : List ℕ × MetaFile → List ℕ
file e = e.0 ++ codes ".json"

abbrev seen : List ℕ × Meta → List ℕ × MetaFile
seen e = (e.0, meta_view e.1)

pub returns-in_default-clause-err : goal.returns-in_default-clause-err
returns-in_default-clause-err c = inr (refl, λ s. c.in_default.ensures s.0.version s.0.expires s.1.head)

pub invariant_of-result : goal.invariant_of-result
invariant_of-result c =
    let v = view c.in-Some-member_of.found.now in
    let listed = members_in_order IsMetaRow file (λ n v e h. h.0) v (rows_view c.in_ok-meta.meta.items) c.in-Some-member_of.ensures.proper c.in_ok-meta.ensures.ok.each in
    record { in_order = seen_in_order seen file c.in_ok-meta.meta.items listed }
