-- An object of a target refers to one layout.
use Rattle.std.proofs.Common.{◌≡◌, ℕ, List, codes, Option, Some, None, refl, inl, inr, subst}
use Rattle.canonical_json.specs.Json.{Json, HasMember}
use Rattle.keys_roles.specs.Plain.{Table, RoleRule}
use Rattle.path_patterns.specs.Grammar.{IsName, IsTargetPath}
use Rattle.document_parts.specs.Bodies.{IsTextOf, AreTextsOf, IsLayoutReference, IsCustom, HasLayoutReference}
use Rattle.document_parts.specs.Documents.{LayoutReference}
use Rattle.document_parts.specs.Members.{Has}
use Rattle.document_parts.specs.Parts.{IsTable}
use Rattle.document_parts.proofs.Congruence.{same6}
use Rattle.document_parts.proofs.DelegationsOnce.{text-of-once, texts-of-once}
use Rattle.document_parts.proofs.Once.{IsOnce, has-once, may-once}
use Rattle.document_parts.proofs.PartsOnce.{table-once, rule-once}

pub keys-once : IsOnce (λ v t. Has v (codes "keys") (λ x. IsTable x t))
keys-once = has-once (codes "keys") IsTable table-once

pub links-once : IsOnce (λ v ps. Has v (codes "links") (λ x. AreTextsOf IsTargetPath x ps))
links-once = has-once (codes "links") (AreTextsOf IsTargetPath) (texts-of-once IsTargetPath)

pub path-once : (name : List ℕ) → IsOnce (λ v p. Has v name (λ x. IsTextOf IsTargetPath x p))
path-once name = has-once name (IsTextOf IsTargetPath) (text-of-once IsTargetPath)

reference-once : IsOnce IsLayoutReference
reference-once v a b p h k =
    same6 make
    (rule-once (codes "keyids") v a.owners b.owners p (a.keys, h.owners) (b.keys, k.owners))
    (keys-once v a.keys b.keys p h.keys k.keys)
    (links-once v a.links b.links p h.links k.links)
    (path-once (codes "path") v a.path b.path p h.path k.path)
    (path-once (codes "product") v a.product b.product p h.product k.product)
    (has-once (codes "step") (IsTextOf IsName) (text-of-once IsName) v a.step b.step p h.step k.step)
  where
    make : RoleRule → Table → List (List ℕ) → List ℕ → List ℕ → List ℕ → LayoutReference
    make owners keys links path product step = record { owners = owners; keys = keys; links = links; path = path; product = product; step = step }

custom-once : IsOnce IsCustom
custom-once v a b p h k = may-once (codes "layout") IsLayoutReference reference-once v a b p h.2 k.2

either-once : IsOnce (λ v o. Has v (codes "custom") (λ x. IsCustom x o))
either-once = has-once (codes "custom") IsCustom custom-once

pub references-once : IsOnce HasLayoutReference
references-once v None None p h k = refl
references-once v None (Some b) p (inl h) k = absurd (h k.0 k.1)
references-once v None (Some b) p (inr h) k = either-once v None (Some b) p h k
references-once v (Some a) None p h (inl k) = absurd (k h.0 h.1)
references-once v (Some a) None p h (inr k) = either-once v (Some a) None p h k
references-once v (Some a) (Some b) p h k = either-once v (Some a) (Some b) p h k

-- ---- where `custom` is there

pub custom_is : (v x : Json) (o : Option LayoutReference) → HasMember v (codes "custom") x → IsCustom x o → HasLayoutReference v o
custom_is v x None there h = inr (x, there, h)
custom_is v x (Some l) there h = (x, there, h)

pub in_custom : (v x : Json) → HasMember v (codes "custom") x → ((y : Json) → HasMember v (codes "custom") y → y ≡ x)
    → (o : Option LayoutReference) → HasLayoutReference v o → IsCustom x o
in_custom v x there only None (inl none) = absurd (none x there)
in_custom v x there only None (inr h) = subst (λ (y : Json). IsCustom y None) (only h.0 h.1) h.2
in_custom v x there only (Some l) h = subst (λ (y : Json). IsCustom y (Some l)) (only h.0 h.1) h.2
