-- When an artifact is on both sides of a link with two digests.
use Rattle.std.proofs.Common.{◌≡◌, ℕ, List, Some, Bool, true, false, not, MatchBool, sym, ◌∙◌}
use Rattle.document_parts.specs.Links.{HasDigest, Link}
use Rattle.artifact_rules.specs.steps.Taking.{IsChanged}

some_once : {A : Type 0} (a b : A) → Some a ≡ Some b → a ≡ b
some_once a b e = cc

pub changed_tells : (l : Link) (path d e : List ℕ) (same : Bool) → HasDigest l.materials path d → HasDigest l.products path e
    → MatchBool same (d ≡ e) (d ≡ e → ⊥) → MatchBool (not same) (IsChanged l path) (IsChanged l path → ⊥)
changed_tells l path d e true before after is = λ other.
    let one = some_once d other.0 (sym before ∙ other.2) in
    let two = some_once e other.1 (sym after ∙ other.3) in
    other.4 (sym one ∙ is ∙ two)
changed_tells l path d e false before after is = (d, e, before, after, is)
