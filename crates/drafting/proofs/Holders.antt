-- Which ids the rules of roles have, row by row.
use Rattle.std.proofs.Common.{◌≡◌, ◌⊎◌, inl, inr, ℕ, zero, suc, ◌<◌, List, [], ◌∷◌, length, get_or, codes, string_bytes, refl, sym, subst, arith}
use Rattle.std.specs.List.{remove}
use Rattle.canonical_json.specs.Json.{Json, object, Members, member, HasMember, IsAmong}
use Rattle.canonical_json.specs.View.{members_view}
use Rattle.drafting.specs.Members.{AlikeBut, Keeps, Puts, PutsAll, IsObjectAt}
use Rattle.drafting.specs.Roots.{HasId, IsListed, IsNamed}
use Rattle.drafting.specs.steps.Rules.{PutsOne}
use Rattle.drafting.proofs.Rows.{Row, shown}

pub named_first : (n : List ℕ) (v : Json) (ms : Members) (id : List ℕ) → HasId v id → IsNamed (object (member n v ms)) id
named_first n v ms id h = (n, v, inl (refl, refl), h)

pub named_more : (n : List ℕ) (v : Json) (ms : Members) (id : List ℕ) → IsNamed (object ms) id → IsNamed (object (member n v ms)) id
named_more n v ms id h = (h.0, h.1, inr h.2, h.3)

named_by : (n : List ℕ) (v : Json) (ms : Members) (id role : List ℕ) (rule : Json) → (HasId v id → ⊥) → ((n ≡ role) × (v ≡ rule)) ⊎ IsAmong role rule ms → HasId rule id → IsNamed (object ms) id
named_by n v ms id role rule none (inl e) h = absurd (none (subst (λ (x : Json). HasId x id) (sym e.1) h))
named_by n v ms id role rule none (inr k) h = (role, rule, k, h)

pub named_later : (n : List ℕ) (v : Json) (ms : Members) (id : List ℕ) → (HasId v id → ⊥) → IsNamed (object (member n v ms)) id → IsNamed (object ms) id
named_later n v ms id none h = named_by n v ms id h.0 h.1 none h.2 h.3

pub has_first : (n : List ℕ) (v : Json) (ms : Members) (id : List ℕ) → n ≡ codes "keyids" → IsListed v id → HasId (object (member n v ms)) id
has_first n v ms id is l = (v, inl (is, refl), l)

pub has_more : (n : List ℕ) (v : Json) (ms : Members) (id : List ℕ) → HasId (object ms) id → HasId (object (member n v ms)) id
has_more n v ms id h = (h.0, inr h.1, h.2)

has_by : (n : List ℕ) (v : Json) (ms : Members) (id : List ℕ) (x : Json) → ((n ≡ codes "keyids") × IsListed v id → ⊥) → ((n ≡ codes "keyids") × (v ≡ x)) ⊎ IsAmong (codes "keyids") x ms → IsListed x id → HasId (object ms) id
has_by n v ms id x none (inl e) l = absurd (none (e.0, subst (λ (y : Json). IsListed y id) (sym e.1) l))
has_by n v ms id x none (inr k) l = (x, k, l)

pub has_later : (n : List ℕ) (v : Json) (ms : Members) (id : List ℕ) → ((n ≡ codes "keyids") × IsListed v id → ⊥) → HasId (object (member n v ms)) id → HasId (object ms) id
has_later n v ms id none h = has_by n v ms id h.0 none h.1 h.2

-- ---- rows that are kept

pub all_named : (P : List ℕ → Type 0) (ms : List Row) → ((k : ℕ) → k < length ms → (d : Row) → P (string_bytes (get_or ms k d).0))
    → (id : List ℕ) (x : Json) → HasMember (shown ms) id x → P id
all_named P [] all id x h = absurd h
all_named P (m ∷ ms) all id x (inl h) = subst P h.0 (all zero (omega arith) m)
all_named P (m ∷ ms) all id x (inr h) = all_named P ms (λ k lt d. all (suc k) (omega (arith, lt)) d) id x h

kept_on : (P : List ℕ → Type 0) (ms : List Row) (i : ℕ) (id : List ℕ) (x : Json) → i < length ms → ((d : Row) → P (string_bytes (get_or ms i d).0) → ⊥) → P id
    → IsAmong id x (members_view ms) → IsAmong id x (members_view (remove ms i))
kept_on P [] i id x lt none p h = absurd h
kept_on P (m ∷ ms) zero id x lt none p (inl h) = absurd (none m (subst P (sym h.0) p))
kept_on P (m ∷ ms) zero id x lt none p (inr h) = h
kept_on P (m ∷ ms) (suc i) id x lt none p (inl h) = inl h
kept_on P (m ∷ ms) (suc i) id x lt none p (inr h) = inr (kept_on P ms i id x (omega (arith, lt)) (λ d. none d) p h)

removed_no_more : (ms : List Row) (i : ℕ) (name : List ℕ) (x : Json) → IsAmong name x (members_view (remove ms i)) → IsAmong name x (members_view ms)
removed_no_more [] zero name x h = absurd h
removed_no_more [] (suc i) name x h = absurd h
removed_no_more (m ∷ ms) zero name x h = inr h
removed_no_more (m ∷ ms) (suc i) name x (inl h) = inl h
removed_no_more (m ∷ ms) (suc i) name x (inr h) = inr (removed_no_more ms i name x h)

-- what has a name of this kind stays, and nothing comes in
pub record Loses (P : List ℕ → Type 0) (a b : Json) : Type 0 where
  pub kept : (name : List ℕ) (x : Json) → P name → HasMember a name x → HasMember b name x
  pub no_more : (name : List ℕ) (x : Json) → HasMember b name x → HasMember a name x

pub loses_none : (P : List ℕ → Type 0) (a : Json) → Loses P a a
loses_none P a = record { kept = λ name x p h. h; no_more = λ name x h. h }

abbrev pub IsNotAt : (List ℕ → Type 0) → List Row → ℕ → Type 0
IsNotAt P ms i = (i < length ms) × ((d : Row) → P (string_bytes (get_or ms i d).0) → ⊥)

pub loses_one : (P : List ℕ → Type 0) (a : Json) (ms seen after : List Row) (i : ℕ) → seen ≡ ms → after ≡ remove ms i → IsNotAt P seen i → Loses P a (shown ms) → Loses P a (shown after)
loses_one P a ms seen after i same is at l =
    let h = subst (λ (r : List Row). IsNotAt P r i) same at in
    subst (λ (r : List Row). Loses P a (shown r)) (sym is) (record {
      kept = λ name x p k. kept_on P ms i name x h.0 h.1 p (l.kept name x p k);
      no_more = λ name x k. l.no_more name x (removed_no_more ms i name x k);
    })

pub keeps_all : (P : List ℕ → Type 0) (a : Json) (ms seen : List Row) → seen ≡ ms → ((id : List ℕ) (x : Json) → HasMember (shown seen) id x → P id) → Loses P a (shown ms) → Keeps P a (shown ms)
keeps_all P a ms seen same all l =
    let h = subst (λ (r : List Row). (id : List ℕ) (x : Json) → HasMember (shown r) id x → P id) same all in
    record { kept = l.kept; only = λ name x k. (l.no_more name x k, h name x k) }

-- ---- a table that comes in

pub one_put : (name : List ℕ) (rows : List (List ℕ × Json)) (roles a b c old all new : Json) → IsObjectAt a name old → AlikeBut (name ∷ []) a b → PutsAll rows old all
    → Keeps (IsNamed roles) all new → Puts name new b c → PutsOne name rows roles a c
one_put name rows roles a b c old all new was alike puts keeps put = record {
  table = record { old = old; new = new; was = was; has = put.has; table = record { all = all; puts = puts; keeps = keeps } };
  others = record {
    kept = λ n x other h. put.others.kept n x other (alike.kept n x other h);
    no_more = λ n x other h. alike.no_more n x other (put.others.no_more n x other h);
  };
}
