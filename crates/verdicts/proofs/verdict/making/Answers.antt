use Rattle.std.proofs.Common.{◌≡◌, ◌<◌, ℕ, List, length, string_bytes, ap, subst, ◌∙◌, arith}
use Rattle.hex.specs.Hex.{encode_lower}
use Rattle.sha2.specs.Sha256.{sha256}
use Rattle.lms.specs.HssKeys.{HssPair, hss_public_of, hss_signature_of, message_count_of}
use Rattle.verdicts.proofs.verdict.making.Goals as goal

pub returns : goal.returns
returns c =
    let ok = c.in-Ok.ensures.ok in
    let signature = c.deref.ensures.value ∙ ok.1 in
    let long : c.len.result ≡ length c.in-Ok.signature.items = omega (arith, c.len.ensures) in
    subst (λ (p : HssPair). (c.args.leaf < message_count_of p.levels) × (string_bytes c.in_ok-encode.field-0 ≡ encode_lower (hss_public_of p.seed p.levels))
    × (c.len.result ≡ length (hss_signature_of p.seed p.levels c.args.leaf c.args.message.now))
    × (string_bytes c.in_ok-encode-2.field-0 ≡ encode_lower (sha256 (hss_signature_of p.seed p.levels c.args.leaf c.args.message.now)))) c.in_ok-pair.ensures (
      ok.0,
      c.in_ok-encode.ensures ∙ ap (λ (l : List ℕ). encode_lower l) c.public.ensures,
      long ∙ ap (λ (l : List ℕ). length l) ok.1,
      c.in_ok-encode-2.ensures ∙ ap (λ (l : List ℕ). encode_lower l) (c.digest_of.ensures ∙ ap (λ (l : List ℕ). sha256 l) signature),
    )
