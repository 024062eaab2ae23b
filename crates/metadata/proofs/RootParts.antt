-- The profile of a root, the layouts that it requires, and what a fault of its keys says of it.
use Rattle.std.proofs.Common.{◌≡◌, ℕ, List, ◌++◌, codes, true, false, Option, inl, inr, refl, sym, ◌∙◌, subst}
use Rattle.std.specs.List.{list_all}
use Rattle.std.proofs.lemmas.Bool.{and_right}
use Rattle.std.proofs.lemmas.List.Folds.{list_all-append}
use Rattle.canonical_json.specs.Json.{Json, text}
use Rattle.canonical_json.specs.Spelling.{IsProper}
use Rattle.keys_roles.specs.Plain.{Table}
use Rattle.path_patterns.specs.Bytes.{is_digit}
use Rattle.path_patterns.specs.Grammar.{IsPattern}
use Rattle.document_parts.specs.Documents.{Profile, first_profile, second_profile, Root}
use Rattle.document_parts.specs.Parts.{IsSpecVersionOf, NamesAreIds}
use Rattle.document_parts.specs.Bodies.{AreTextsOf, HasRequired, HasRootHead, IsRoot, Roles, roles_of}
use Rattle.document_parts.specs.steps.Faults.{IsFaulty}
use Rattle.document_parts.specs.steps.Tables.{HasKeyed}
use Rattle.metadata.specs.steps.Spelled.{plain_root}
use Rattle.document_parts.specs.declared.documents.ShapeFault.{ShapeFault}
use Rattle.document_parts.proofs.DelegationsOnce.{texts-of-once}
use Rattle.document_parts.proofs.Ill.{ill_again}
use Rattle.document_parts.proofs.Once.{IsOnce, has-once, may-once}

-- digits are no text that ends in `+p2`
no_digits : (a b : List ℕ) → list_all is_digit a ≡ true → a ≡ b ++ codes "+p2" → ⊥
no_digits a b all e =
    let whole = subst (λ (t : List ℕ). list_all is_digit t ≡ true) e all in
    let cut = sym (list_all-append is_digit b (codes "+p2")) ∙ whole in
    let last : false ≡ true = sym (and_right (list_all is_digit b) (list_all is_digit (codes "+p2")) refl) ∙ cut in
    cc

apart : (v : Json) → IsSpecVersionOf first_profile v → IsSpecVersionOf second_profile v → ⊥
apart v h k =
    let both : text (codes "1.0." ++ h.0) ≡ text (codes "1.0." ++ (k.0 ++ codes "+p2")) = sym h.1 ∙ k.1 in
    let same : h.0 ≡ k.0 ++ codes "+p2" = cc in
    no_digits h.0 k.0 h.4 same

profile-once : IsOnce (λ v p. IsSpecVersionOf p v)
profile-once v first_profile first_profile p h k = refl
profile-once v first_profile second_profile p h k = absurd (apart v h k)
profile-once v second_profile first_profile p h k = absurd (apart v k h)
profile-once v second_profile second_profile p h k = refl

pub head-profile : (v : Json) (a b : Profile) (m n s t : ℕ) → IsProper v → HasRootHead v a m s → HasRootHead v b n t → a ≡ b
head-profile v a b m n s t p h k = has-once (codes "spec_version") (λ x q. IsSpecVersionOf q x) profile-once v a b p h.0 k.0

pub required-once : (profile : Profile) → IsOnce (λ v o. HasRequired v profile o)
required-once first_profile v a b p h k = h ∙ sym k
required-once second_profile v a b p h k = may-once (codes "layout_required") (AreTextsOf IsPattern) (texts-of-once IsPattern) v a b p h k

-- what a root of this head requires
pub head_required : (v : Json) (profile : Profile) (version expires : ℕ) (r : Root) → IsProper v → HasRootHead v profile version expires → IsRoot v r
    → HasRequired v profile r.required
head_required v profile version expires r p h is =
    subst (λ (q : Profile). HasRequired v q r.required) (head-profile v r.profile profile r.version version r.expires expires p is.head h) is.required

-- a fault of the keys is one of the root
pub faulty_root : (v : Json) (profile : Profile) (version expires : ℕ) (required : Option (List (List ℕ))) (e : ShapeFault)
    → ((k : Table × Roles) → HasKeyed v k → IsRoot v (plain_root profile version expires required k))
    → IsFaulty (HasKeyed v) (λ k. NamesAreIds k.0) e → IsFaulty (IsRoot v) (λ r. NamesAreIds r.keys) e
faulty_root v profile version expires required e make (inl h) = inl (ill_again e h (λ r. ((r.0.keys, roles_of r.0), (r.1.keys, r.1.roles))))
faulty_root v profile version expires required e make (inr h) = inr (h.0, (plain_root profile version expires required h.1.0, make h.1.0 h.1.1, h.1.2))
