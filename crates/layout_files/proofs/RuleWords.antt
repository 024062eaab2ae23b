-- Words are those of one rule at most.
use Rattle.std.proofs.Common.{◌≡◌, ℕ, List, [], ◌∷◌, ◌++◌, codes, Option, Some, None, true, false, bytes_eq, refl, sym, ap, subst, ◌∙◌}
use Rattle.std.proofs.lemmas.Slice.Eq.{bytes_eq-Decides}
use Rattle.canonical_json.specs.Json.{Json, array, text, Items, no_items, item}
use Rattle.document_parts.specs.Members.{IsArray, IsText, ItemsAre}
use Rattle.document_parts.specs.Rules.{Side, materials, products, Match, ArtifactRule, create, delete, modify, allow, disallow, require, matching, in_words, side_word, match_words, rule_words}
use Rattle.document_parts.proofs.Congruence.{same2, same5}

-- ---- a list of texts is one list

items-once : (vs : Items) (xs ys : List (List ℕ)) → ItemsAre IsText vs xs → ItemsAre IsText vs ys → xs ≡ ys
items-once no_items [] [] h k = refl
items-once no_items [] (y ∷ ys) h k = absurd k
items-once no_items (x ∷ xs) ys h k = absurd h
items-once (item v vs) [] ys h k = absurd h
items-once (item v vs) (x ∷ xs) [] h k = absurd k
items-once (item v vs) (x ∷ xs) (y ∷ ys) h k =
    let both : text x ≡ text y = sym h.0 ∙ k.0 in
    let first : x ≡ y = cc in
    same2 (λ z zs. z ∷ zs) first (items-once vs xs ys h.1 k.1)

pub texts-once : (v : Json) (xs ys : List (List ℕ)) → IsArray IsText v xs → IsArray IsText v ys → xs ≡ ys
texts-once v xs ys (vs, e, h) (ws, f, k) =
    let both : array vs ≡ array ws = sym e ∙ f in
    let same : vs ≡ ws = cc in
    items-once vs xs ys h (subst (λ (z : Items). ItemsAre IsText z ys) (sym same) k)

-- ---- words

abbrev first : List (List ℕ) → List ℕ
first [] = []
first (w ∷ ws) = w

abbrev second : List (List ℕ) → List ℕ
second [] = []
second (w ∷ ws) = first ws

apart : (a b : List ℕ) → bytes_eq a b ≡ false → a ≡ b → ⊥
apart a b other same =
    let both : false ≡ true = sym other ∙ (bytes_eq-Decides a b).1 same in
    absurd (cc)

-- a folder ends before a word other than IN
cut : (k : List ℕ) → (codes "IN" ≡ k → ⊥) → (f g : Option (List ℕ)) (xs ys : List (List ℕ)) → in_words f ++ k ∷ xs ≡ in_words g ++ k ∷ ys → (f ≡ g) × (xs ≡ ys)
cut k other None None xs ys e = (refl, cc)
cut k other None (Some g) xs ys e = let same : codes "IN" ≡ k = cc in absurd (other same)
cut k other (Some f) None xs ys e = let same : codes "IN" ≡ k = cc in absurd (other same)
cut k other (Some f) (Some g) xs ys e =
    let folder : f ≡ g = cc in
    (ap Some folder, cc)

side-once : (a b : Side) → side_word a ≡ side_word b → a ≡ b
side-once materials materials e = refl
side-once materials products e = absurd (apart (codes "MATERIALS") (codes "PRODUCTS") refl e)
side-once products materials e = absurd (apart (codes "PRODUCTS") (codes "MATERIALS") refl e)
side-once products products e = refl

with_other : codes "IN" ≡ codes "WITH" → ⊥
with_other e = apart (codes "IN") (codes "WITH") refl e

from_other : codes "IN" ≡ codes "FROM" → ⊥
from_other e = apart (codes "IN") (codes "FROM") refl e

match-once : (m n : Match) → match_words m ≡ match_words n → m ≡ n
match-once m n e =
    let pattern : m.pattern ≡ n.pattern = cc in
    let behind : in_words m.from ++ codes "WITH" ∷ side_word m.side ∷ (in_words m.to ++ codes "FROM" ∷ m.step ∷ [])
    ≡ in_words n.from ++ codes "WITH" ∷ side_word n.side ∷ (in_words n.to ++ codes "FROM" ∷ n.step ∷ []) = cc in
    let from = cut (codes "WITH") with_other m.from n.from _ _ behind in
    let rest = from.1 in
    let side : side_word m.side ≡ side_word n.side = cc in
    let later : in_words m.to ++ codes "FROM" ∷ m.step ∷ [] ≡ in_words n.to ++ codes "FROM" ∷ n.step ∷ [] = cc in
    let to = cut (codes "FROM") from_other m.to n.to _ _ later in
    let last = to.1 in
    let step : m.step ≡ n.step = cc in
    same5 make pattern from.0 (side-once m.side n.side side) to.0 step
  where
    make : List ℕ → Option (List ℕ) → Side → Option (List ℕ) → List ℕ → Match
    make pattern from side to step = record { pattern = pattern; from = from; side = side; to = to; step = step }

pub words-once : (a b : ArtifactRule) → rule_words a ≡ rule_words b → a ≡ b
words-once (create p) (create q) e = ap create (ap second e)
words-once (create p) (delete q) e = absurd (apart (codes "CREATE") (codes "DELETE") refl (ap first e))
words-once (create p) (modify q) e = absurd (apart (codes "CREATE") (codes "MODIFY") refl (ap first e))
words-once (create p) (allow q) e = absurd (apart (codes "CREATE") (codes "ALLOW") refl (ap first e))
words-once (create p) (disallow q) e = absurd (apart (codes "CREATE") (codes "DISALLOW") refl (ap first e))
words-once (create p) (require q) e = absurd (apart (codes "CREATE") (codes "REQUIRE") refl (ap first e))
words-once (create p) (matching q) e = absurd (apart (codes "CREATE") (codes "MATCH") refl (ap first e))
words-once (delete p) (create q) e = absurd (apart (codes "DELETE") (codes "CREATE") refl (ap first e))
words-once (delete p) (delete q) e = ap delete (ap second e)
words-once (delete p) (modify q) e = absurd (apart (codes "DELETE") (codes "MODIFY") refl (ap first e))
words-once (delete p) (allow q) e = absurd (apart (codes "DELETE") (codes "ALLOW") refl (ap first e))
words-once (delete p) (disallow q) e = absurd (apart (codes "DELETE") (codes "DISALLOW") refl (ap first e))
words-once (delete p) (require q) e = absurd (apart (codes "DELETE") (codes "REQUIRE") refl (ap first e))
words-once (delete p) (matching q) e = absurd (apart (codes "DELETE") (codes "MATCH") refl (ap first e))
words-once (modify p) (create q) e = absurd (apart (codes "MODIFY") (codes "CREATE") refl (ap first e))
words-once (modify p) (delete q) e = absurd (apart (codes "MODIFY") (codes "DELETE") refl (ap first e))
words-once (modify p) (modify q) e = ap modify (ap second e)
words-once (modify p) (allow q) e = absurd (apart (codes "MODIFY") (codes "ALLOW") refl (ap first e))
words-once (modify p) (disallow q) e = absurd (apart (codes "MODIFY") (codes "DISALLOW") refl (ap first e))
words-once (modify p) (require q) e = absurd (apart (codes "MODIFY") (codes "REQUIRE") refl (ap first e))
words-once (modify p) (matching q) e = absurd (apart (codes "MODIFY") (codes "MATCH") refl (ap first e))
words-once (allow p) (create q) e = absurd (apart (codes "ALLOW") (codes "CREATE") refl (ap first e))
words-once (allow p) (delete q) e = absurd (apart (codes "ALLOW") (codes "DELETE") refl (ap first e))
words-once (allow p) (modify q) e = absurd (apart (codes "ALLOW") (codes "MODIFY") refl (ap first e))
words-once (allow p) (allow q) e = ap allow (ap second e)
words-once (allow p) (disallow q) e = absurd (apart (codes "ALLOW") (codes "DISALLOW") refl (ap first e))
words-once (allow p) (require q) e = absurd (apart (codes "ALLOW") (codes "REQUIRE") refl (ap first e))
words-once (allow p) (matching q) e = absurd (apart (codes "ALLOW") (codes "MATCH") refl (ap first e))
words-once (disallow p) (create q) e = absurd (apart (codes "DISALLOW") (codes "CREATE") refl (ap first e))
words-once (disallow p) (delete q) e = absurd (apart (codes "DISALLOW") (codes "DELETE") refl (ap first e))
words-once (disallow p) (modify q) e = absurd (apart (codes "DISALLOW") (codes "MODIFY") refl (ap first e))
words-once (disallow p) (allow q) e = absurd (apart (codes "DISALLOW") (codes "ALLOW") refl (ap first e))
words-once (disallow p) (disallow q) e = ap disallow (ap second e)
words-once (disallow p) (require q) e = absurd (apart (codes "DISALLOW") (codes "REQUIRE") refl (ap first e))
words-once (disallow p) (matching q) e = absurd (apart (codes "DISALLOW") (codes "MATCH") refl (ap first e))
words-once (require p) (create q) e = absurd (apart (codes "REQUIRE") (codes "CREATE") refl (ap first e))
words-once (require p) (delete q) e = absurd (apart (codes "REQUIRE") (codes "DELETE") refl (ap first e))
words-once (require p) (modify q) e = absurd (apart (codes "REQUIRE") (codes "MODIFY") refl (ap first e))
words-once (require p) (allow q) e = absurd (apart (codes "REQUIRE") (codes "ALLOW") refl (ap first e))
words-once (require p) (disallow q) e = absurd (apart (codes "REQUIRE") (codes "DISALLOW") refl (ap first e))
words-once (require p) (require q) e = ap require (ap second e)
words-once (require p) (matching q) e = absurd (apart (codes "REQUIRE") (codes "MATCH") refl (ap first e))
words-once (matching p) (create q) e = absurd (apart (codes "MATCH") (codes "CREATE") refl (ap first e))
words-once (matching p) (delete q) e = absurd (apart (codes "MATCH") (codes "DELETE") refl (ap first e))
words-once (matching p) (modify q) e = absurd (apart (codes "MATCH") (codes "MODIFY") refl (ap first e))
words-once (matching p) (allow q) e = absurd (apart (codes "MATCH") (codes "ALLOW") refl (ap first e))
words-once (matching p) (disallow q) e = absurd (apart (codes "MATCH") (codes "DISALLOW") refl (ap first e))
words-once (matching p) (require q) e = absurd (apart (codes "MATCH") (codes "REQUIRE") refl (ap first e))
words-once (matching m) (matching n) e = ap matching (match-once m n e)
