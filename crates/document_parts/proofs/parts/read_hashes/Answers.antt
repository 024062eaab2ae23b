use Rattle.std.proofs.Common.{◌≡◌, sym, subst, ◌∙◌}
use Rattle.hex.specs.Hex.{encode_lower}
use Rattle.path_patterns.specs.Grammar.{IsHex}
use Rattle.document_parts.proofs.parts.read_hashes.Goals as goal

pub returns-in-None : goal.returns-in-None
returns-in-None c d h =
    let both = sym c.in_ok-only.ensures ∙ h.1 in
    let seen = c.in_ok-digits.ensures in
    let digits : c.in_ok-digits.digits.now ≡ encode_lower d = cc in
    c.in-None.ensures.none (subst (λ t. IsHex 64 t) (sym digits) (c.one_digest.ensures.spelled d h.0))
