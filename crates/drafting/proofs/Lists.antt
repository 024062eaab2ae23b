-- Rows that are put in one after the other, the last of a name deciding.
use Rattle.std.proofs.Common.{◌≡◌, ◌≢◌, ℕ, List, [], ◌∷◌, ◌++◌, map, sym, subst}
use Rattle.std.specs.List.{AllByRecursion}
use Rattle.canonical_json.specs.Json.{Json, HasMember}
use Rattle.drafting.specs.Members.{IsNoneOf, Puts, PutsAll}
use Rattle.drafting.proofs.Alike.{alike_self}

others_named : (rows : List (List ℕ × Json)) (name : List ℕ) → AllByRecursion (λ r. r.0 ≢ name) rows → IsNoneOf (map (λ r. r.0) rows) name
others_named [] name other = tt
others_named (r ∷ rows) name other = (other.0, others_named rows name other.1)

last_of : (r : List ℕ × Json) (rows : List (List ℕ × Json)) (m a c : Json) → Puts r.0 r.1 m a → PutsAll rows a c
    → (name : List ℕ) (x : Json) (front back : List (List ℕ × Json)) → r ∷ rows ≡ front ++ (name, x) ∷ back → AllByRecursion (λ e. e.0 ≢ name) back
    → HasMember c name x
last_of r rows m a c put rest name x [] back is last =
    let first : r ≡ (name, x) = cc in
    let later : rows ≡ back = cc in
    let none = subst (λ (es : List (List ℕ × Json)). AllByRecursion (λ e. e.0 ≢ name) es) (sym later) last in
    let has = subst (λ (e : List ℕ × Json). HasMember a e.0 e.1) first put.has in
    rest.others.kept name x (others_named rows name none) has
last_of r rows m a c put rest name x (f ∷ front) back is last =
    let later : rows ≡ front ++ (name, x) ∷ back = cc in
    rest.named name x (record { front = front; back = back; is = later; last = last })

pub puts_more : (r : List ℕ × Json) (rows : List (List ℕ × Json)) (m a c : Json) → Puts r.0 r.1 m a → PutsAll rows a c → PutsAll (r ∷ rows) m c
puts_more r rows m a c put rest = record {
  named = λ name x l. last_of r rows m a c put rest name x l.front l.back l.is l.last;
  others = record {
    kept = λ name x other h. rest.others.kept name x other.1 (put.others.kept name x (other.0, tt) h);
    no_more = λ name x other h. put.others.no_more name x (other.0, tt) (rest.others.no_more name x other.1 h);
  };
}

no_last : (name : List ℕ) (x : Json) (front back : List (List ℕ × Json)) → [] ≡ front ++ (name, x) ∷ back → ⊥
no_last name x [] back is = cc
no_last name x (f ∷ front) back is = cc

pub puts_none : (m : Json) → PutsAll [] m m
puts_none m = record {
  named = λ name x l. absurd (no_last name x l.front l.back l.is);
  others = alike_self [] m;
}
