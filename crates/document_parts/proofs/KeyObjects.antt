-- A key object has three members, of which the last tells its scheme.
use Rattle.std.proofs.Common.{◌≡◌, ℕ, List, [], ◌∷◌, codes, ap, arith}
use Rattle.canonical_json.specs.Json.{Json, text, object, member, no_members}
use Rattle.keys_roles.specs.Plain.{Key, lms, hss}
use Rattle.keys_roles.specs.Keys.{key_object}
use Rattle.document_parts.specs.Parts.{IsKey}

-- an object with these three members
abbrev pub three : Json → Json → Json → Json
three kind keyval scheme = object (member (codes "keytype") kind (member (codes "keyval") keyval (member (codes "scheme") scheme no_members)))

pub no_key : (v : Json) → ((x y z : Json) → v ≡ three x y z → ⊥) → (k : Key) → IsKey v k → ⊥
no_key v none (lms p) h = none _ _ _ h.0
no_key v none (hss p) h = none _ _ _ h.0

abbrev head_of : List ℕ → ℕ
head_of [] = 0
head_of (x ∷ xs) = x

names_differ : codes "lms-sha256" ≡ codes "hss-sha256" → ⊥
names_differ h = let e : 108 ≡ 104 = ap head_of h in absurd (omega (arith, e))

-- the third member of a key object, by its parts
scheme_one : (k y z k' y' z' : Json) → three k y z ≡ three k' y' z' → z ≡ z'
scheme_one k y z k' y' z' h = cc

text_one : (a b : List ℕ) → text a ≡ text b → a ≡ b
text_one a b h = cc

pub schemes_differ : (a b : List ℕ) → key_object (lms a) ≡ key_object (hss b) → ⊥
schemes_differ a b h = names_differ (text_one (codes "lms-sha256") (codes "hss-sha256") (scheme_one _ _ _ _ _ _ h))
