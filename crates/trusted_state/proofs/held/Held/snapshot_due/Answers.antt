use Rattle.std.proofs.Common.{◌≡◌, Option, Some, None, refl, ap, subst}
use Rattle.std.specs.Prelude.{IfSome, IsSomeAnd, option_map}
use Rattle.document_parts.specs.Documents.{Timestamp}
use Rattle.metadata.specs.File.{File}
use Rattle.metadata.specs.FileViews.{timestamp_file, snapshot_file}
use Rattle.trust_rules.specs.State.{IsSnapshotDue, NamesSnapshot, Trusted}
use Rattle.trust_rules.proofs.OrderLines.{no}
use Rattle.trusted_state.proofs.held.Held.snapshot_due.Goals as goal

not_some : {A : Type 0} (P : A → Type 0) (o : Option A) → (IsSomeAnd o P → ⊥) → IfSome o (λ x. P x → ⊥)
not_some P None h = tt
not_some P (Some x) h = h

pub returns : goal.returns
returns c =
    let stamp = timestamp_file c.in-Some.timestamp.now in
    let snap = option_map snapshot_file c.trusted-trusted.result.now.snapshot in
    subst (λ (T : Trusted). IsSnapshotDue T (Some stamp.body.snapshot.version)) c.trusted-trusted.ensures.view
    (subst (λ (o : Option (File Timestamp)). IsSomeAnd o (λ s. (stamp.body.snapshot.version ≡ s.body.snapshot.version) × IfSome snap (λ x. NamesSnapshot s x → ⊥)))
    (ap (option_map timestamp_file) c.in-Some.ensures.value)
    (refl, not_some (NamesSnapshot stamp) snap (no c.if-names_held.ensures)))
