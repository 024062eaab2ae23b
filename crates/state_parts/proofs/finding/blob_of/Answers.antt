use Rattle.std.proofs.Common.{◌≡◌, ◌∙◌, Some, None, cond, sym, ap, refl, true, false}
use Rattle.std.specs.Prelude.{bytes_eq, option_and_then}
use Rattle.delegations.specs.Delegation.{before}
use Rattle.delegations.proofs.ByHalves.{found}
use Rattle.delegations.proofs.KeyOrder.{sorts_bytes}
use Rattle.state_parts.proofs.finding.blob_of.Goals as goal

pub returns-in_default : goal.returns-in_default
returns-in_default c =
    sym (found (λ b. b.digest.0) (λ b. b.bytes.items) before bytes_eq sorts_bytes c.args.blobs.now c.count_before.result c.args.digest.now.0 c.requires c.count_before.ensures c.get.result c.get.ensures.lookup
    ∙ ap (option_and_then (λ b. cond (bytes_eq b.now.digest.0 c.args.digest.now.0) (Some b.now.bytes.items) None)) c.in_default.is)

pub returns-then-not-is_same : goal.returns-then-not-is_same
returns-then-not-is_same c =
    let other : bytes_eq c.in-Some.blob.now.digest.0 c.args.digest.now.0 ≡ false = sym c.is_same.ensures ∙ c.if-not-is_same.true in
    sym (found (λ b. b.digest.0) (λ b. b.bytes.items) before bytes_eq sorts_bytes c.args.blobs.now c.count_before.result c.args.digest.now.0 c.requires c.count_before.ensures c.get.result c.get.ensures.lookup
    ∙ (ap (option_and_then (λ b. cond (bytes_eq b.now.digest.0 c.args.digest.now.0) (Some b.now.bytes.items) None)) c.in-Some.is ∙ rw other refl))

pub returns : goal.returns
returns c =
    let one : bytes_eq c.in-Some.blob.now.digest.0 c.args.digest.now.0 ≡ true = sym c.is_same.ensures ∙ c.if-not-is_same.false in
    sym (found (λ b. b.digest.0) (λ b. b.bytes.items) before bytes_eq sorts_bytes c.args.blobs.now c.count_before.result c.args.digest.now.0 c.requires c.count_before.ensures c.get.result c.get.ensures.lookup
    ∙ (ap (option_and_then (λ b. cond (bytes_eq b.now.digest.0 c.args.digest.now.0) (Some b.now.bytes.items) None)) c.in-Some.is ∙ rw one refl))
