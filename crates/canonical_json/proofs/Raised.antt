-- Without limits the reader answers what the limited one does, but where that one stops at a limit. So a value
-- of the grammar is read, or the reader stops at a limit.
use Rattle.std.proofs.Common.{◌≡◌, ◌≢◌, ℕ, zero, suc, ◌+◌, ◌-◌, ◌*◌, ◌≤◌, ◌⊎◌, inl, inr, List, [], ◌∷◌, ◌++◌, Bool, true, false, ◌==◌, if◌then◌else◌, Option, Some, None, length, refl, subst, ap, arith}
use Rattle.canonical_json.specs.Json.{Json, integer, array, object, Items, item, Members, member, depth}
use Rattle.canonical_json.specs.Spelling.{spelling, IsProper}
use Rattle.canonical_json.specs.steps.Reading.{Outcome, got, bad, reading, as_read, mark_at, name_at, is_digit, has_room, digits_at, signed, number_at, value_with, more_items, items_at, list_at, more_members, members_at, object_at, value_at}
use Rattle.canonical_json.specs.declared.ReadFault.{ReadFault}
use Rattle.canonical_json.specs.declared.ReadFault.TheVariants.{NotCanonical, TooDeep, IntegerRange}
use Rattle.canonical_json.proofs.Complete.{Ends, value_again}

-- it stops with another fault than that the bytes are not canonical: at a limit
abbrev pub AtLimit : {A : Type 0} → Outcome A → Type 0
AtLimit o = (e : ReadFault) × (rest : List ℕ) × (e ≢ NotCanonical) × (o ≡ bad e rest)

-- the two outcomes are one, or the first stops at a limit
abbrev pub Raised : {A : Type 0} → Outcome A → Outcome A → Type 0
Raised o p = (o ≡ p) ⊎ AtLimit o

abbrev RaisedReader : {A : Type 0} → (List ℕ → Outcome A) → (List ℕ → Outcome A) → Type 0
RaisedReader p q = (bs : List ℕ) → Raised (p bs) (q bs)

raised_if : {A : Type 0} (t : Bool) (x y z w : Outcome A) → Raised x z → Raised y w → Raised (if t then x else y) (if t then z else w)
raised_if true x y z w g h = g
raised_if false x y z w g h = h

raised_as_read : {A B : Type 0} (f : A → B) (o p : Outcome A) → Raised o p → Raised (as_read f o) (as_read f p)
raised_as_read f o p (inl e) = inl (ap (as_read f) e)
raised_as_read f o p (inr s) = inr (s.0, s.1, s.2, ap (as_read f) s.3)

raised_reading : {A B : Type 0} (o p : Outcome A) (k h : A → List ℕ → Outcome B) → Raised o p → ((x : A) (s : List ℕ) → Raised (k x s) (h x s)) → Raised (reading o k) (reading p h)
raised_reading o p k h (inl e) f = subst (λ (q : Outcome _). Raised (reading o k) (reading q h)) e (alike o)
  where
    alike : (q : Outcome _) → Raised (reading q k) (reading q h)
    alike (got x s) = f x s
    alike (bad e s) = inl refl
raised_reading o p k h (inr s) f = inr (s.0, s.1, s.2, ap (λ (q : Outcome _). reading q k) s.3)

-- ---- integers

raised_room : {A : Type 0} (t : Bool) (x z : Outcome A) (s : List ℕ) → Raised x z → Raised (if t then x else bad IntegerRange s) z
raised_room true x z s h = h
raised_room false x z s h = inr (IntegerRange, s, (λ e. cc), refl)

digits_raised : (minus : Bool) (n : ℕ) → RaisedReader (digits_at true minus n) (digits_at false minus n)
unfolding digits_at
digits_raised minus n [] = inl refl
digits_raised minus n (b ∷ bs) =
    raised_if (is_digit b) _ _ _ _ (raised_room (has_room true minus (n * 10 + (b - 48))) _ _ (b ∷ bs) (digits_raised minus (n * 10 + (b - 48)) bs)) (inl refl)

number_raised : (minus : Bool) → RaisedReader (number_at true minus) (number_at false minus)
number_raised minus [] = inl refl
number_raised minus (b ∷ bs) =
    raised_if (b == 48) _ _ _ _ (inl refl) (raised_if (is_digit b) _ _ _ _ (raised_as_read (λ n. integer (signed minus n)) _ _ (digits_raised minus (b - 48) bs)) (inl refl))

-- ---- values

value_with_raised : (a o c p : List ℕ → Outcome Json) → RaisedReader a c → RaisedReader o p → RaisedReader (value_with true a o) (value_with false c p)
value_with_raised a o c p lists objects [] = inl refl
value_with_raised a o c p lists objects (b ∷ bs) =
    raised_if (b == 34) _ _ _ _ (inl refl)
    (raised_if (b == 91) _ _ _ _ (lists bs)
    (raised_if (b == 123) _ _ _ _ (objects bs)
    (raised_if (b == 110) _ _ _ _ (inl refl)
    (raised_if (b == 116) _ _ _ _ (inl refl)
    (raised_if (b == 102) _ _ _ _ (inl refl)
    (raised_if (b == 45) _ _ _ _ (number_raised true bs) (number_raised false (b ∷ bs))))))))

module _ (p q : List ℕ → Outcome Json) (values : RaisedReader p q) where
  more_items_raised : (next after : List ℕ → Outcome Items) → RaisedReader next after → RaisedReader (more_items next) (more_items after)
  more_items_raised next after h [] = inl refl
  more_items_raised next after h (b ∷ bs) = raised_if (b == 44) _ _ _ _ (h bs) (inl refl)

  items_raised : (n : ℕ) → RaisedReader (items_at p n) (items_at q n)
  unfolding items_at
  items_raised zero bs = inl refl
  items_raised (suc n) bs =
      raised_reading (p bs) (q bs) _ _ (values bs) (λ v rest. raised_as_read (item v) _ _ (more_items_raised (items_at p n) (items_at q n) (items_raised n) rest))

  list_raised : RaisedReader (list_at p) (list_at q)
  list_raised [] = inl refl
  list_raised (b ∷ bs) = raised_if (b == 93) _ _ _ _ (inl refl) (items_raised (suc (suc (length bs))) (b ∷ bs))

  more_members_raised : (next after : List ℕ → Outcome Members) → RaisedReader next after → RaisedReader (more_members next) (more_members after)
  more_members_raised next after h [] = inl refl
  more_members_raised next after h (b ∷ bs) = raised_if (b == 44) _ _ _ _ (h bs) (inl refl)

  members_raised : (before : Option (List ℕ)) (n : ℕ) → RaisedReader (members_at p before n) (members_at q before n)
  unfolding members_at
  members_raised before zero bs = inl refl
  members_raised before (suc n) bs =
      raised_reading (name_at before bs) (name_at before bs) _ _ (inl refl) (λ k after.
      raised_reading (mark_at 58 after) (mark_at 58 after) _ _ (inl refl) (λ u behind.
      raised_reading (p behind) (q behind) _ _ (values behind) (λ v rest.
      raised_as_read (member k v) _ _ (more_members_raised (members_at p (Some k) n) (members_at q (Some k) n) (members_raised (Some k) n) rest))))

  object_raised : RaisedReader (object_at p) (object_at q)
  object_raised [] = inl refl
  object_raised (b ∷ bs) = raised_if (b == 125) _ _ _ _ (inl refl) (members_raised None (suc (suc (length bs))) (b ∷ bs))

too_deep : (c : ℕ) (o : Outcome Json) (bs : List ℕ) → Raised (bad TooDeep (c ∷ bs)) o
too_deep c o bs = inr (TooDeep, c ∷ bs, (λ e. cc), refl)

pub value_raised : (levels more : ℕ) → levels ≤ more → RaisedReader (value_at true levels) (value_at false more)
unfolding value_at
value_raised zero zero h bs = value_with_raised _ _ _ _ (λ rest. inl refl) (λ rest. inl refl) bs
value_raised zero (suc more) h bs = value_with_raised _ _ _ _ (λ rest. too_deep 91 _ rest) (λ rest. too_deep 123 _ rest) bs
value_raised (suc levels) zero h bs = absurd (omega arith)
value_raised (suc levels) (suc more) h bs =
    value_with_raised _ _ _ _
    (λ rest. raised_as_read array _ _ (list_raised (value_at true levels) (value_at false more) (value_raised levels more (omega arith)) rest))
    (λ rest. raised_as_read object _ _ (object_raised (value_at true levels) (value_at false more) (value_raised levels more (omega arith)) rest)) bs

-- a value of the grammar is read, or the reader stops at a limit
pub proper_read : (levels : ℕ) (v : Json) (rest : List ℕ) → IsProper v → Ends rest → Raised (value_at true levels (spelling v ++ rest)) (got v rest)
proper_read levels v rest proper ends =
    subst (λ (o : Outcome Json). Raised (value_at true levels (spelling v ++ rest)) o)
    (value_again false v (levels + depth v) rest (proper, (λ e. cc), omega arith) ends)
    (value_raised levels (levels + depth v) (omega arith) (spelling v ++ rest))
