use Rattle.std.proofs.Common.{◌++◌, ◌∙◌, List, ap, sym}
use Rattle.metadata.specs.File.{Bytes}
use Rattle.trust_rules.specs.State.{blob_at}
use Rattle.granting.proofs.ServedFrom.{own_digest}
use Rattle.granting.proofs.serving.RefStateBlobs.load.Goals as goal

pub returns-in-Ok-clause-leaves : goal.returns-in-Ok-clause-leaves
returns-in-Ok-clause-leaves c =
    let S = c.args.self.now.now.state in
    let digest = c.args.digest.now.0 in
    let there = sym (c.in-Some.ensures ∙ ap (λ (l : List (Bytes × Bytes)). blob_at l digest) c.blobs.ensures.view) in (
      c.in-Some.blob.now.bytes.items,
      c.in-Ok.ensures.items ∙ ap (λ (b : Bytes). c.args.out.now.items ++ b) c.deref.ensures.value,
      own_digest S digest _ c.blobs.ensures.valid there,
      (λ honest. there),
    )
