-- In what two JSON values differ (RFC 8259, section 3): at which places, and what stands there on either side.
use Rattle.std.specs.Prelude.{◌≡◌, ◌≢◌, ◌⊎◌, ℕ, zero, suc, List, [], ◌∷◌, Option, Some, None, cond}
use Rattle.std.specs.Str.{bytes_eq}
use Rattle.canonical_json.specs.Json.{Json, object, array, Items, no_items, item, Members, no_members, member, names}
use Rattle.canonical_json.specs.Spelling.{AreRising}

-- ---- places

-- one step into a value: to the member of a name of an object, or to the item of an index of an array
pub data Step : Type 0 where
  at_name : List ℕ → Step
  at_index : ℕ → Step

-- the value of the first member of this name
abbrev pub named : List ℕ → Members → Option Json
named name no_members = None
named name (member n v ms) = cond (bytes_eq n name) (Some v) (named name ms)

-- the item of this index, the first of index 0
abbrev pub item_at : ℕ → Items → Option Json
item_at i no_items = None
item_at zero (item v vs) = Some v
item_at (suc i) (item v vs) = item_at i vs

-- what stands one step inside what stands at a place: nothing, where there is none
abbrev pub inside : Step → Option Json → Option Json
inside (at_name name) (Some (object ms)) = named name ms
inside (at_index i) (Some (array vs)) = item_at i vs
inside s one = None

-- what stands at a place of it
abbrev pub standing : List Step → Option Json → Option Json
standing [] one = one
standing (s ∷ place) one = standing place (inside s one)

-- ---- changes

abbrev pub IsObject : Option Json → Type 0
IsObject one = (ms : Members) × (one ≡ Some (object ms))

abbrev pub IsArray : Option Json → Type 0
IsArray one = (vs : Items) × (one ≡ Some (array vs))

-- two objects are compared at the names of members, two arrays at the indices of items
abbrev pub AreEntered : Step → Option Json → Option Json → Type 0
AreEntered (at_name name) one other = IsObject one × IsObject other
AreEntered (at_index i) one other = IsArray one × IsArray other

-- they are not the same, and neither two objects nor two arrays
pub record DifferAsWhole (one other : Option Json) : Type 0 where
  pub apart : one ≢ other
  pub no_objects : IsObject one → IsObject other → ⊥
  pub no_arrays : IsArray one → IsArray other → ⊥

-- one differs from the other at this place: there, what stands on the two sides differs as a whole; on the way there are
-- two objects or two arrays
abbrev pub Differs : Option Json → Option Json → List Step → Type 0
Differs one other [] = DifferAsWhole one other
Differs one other (s ∷ place) = AreEntered s one other × Differs (inside s one) (inside s other) place

-- a place with what stands there on either side
pub record Change : Type 0 where
  pub place : List Step
  pub before : Option Json
  pub after : Option Json

-- one differs from the other there, and it says what stands there
pub record IsChange (one other : Option Json) (c : Change) : Type 0 where
  pub differs : Differs one other c.place
  pub before : c.before ≡ standing c.place one
  pub after : c.after ≡ standing c.place other

-- ---- lists of changes

-- x is in the list
abbrev pub Has : {A : Type 0} → List A → A → Type 0
Has [] x = ⊥
Has (y ∷ ys) x = (x ≡ y) ⊎ Has ys x

-- no two entries have one place
abbrev pub AreApart : List Change → Type 0
AreApart [] = Unit {0}
AreApart (c ∷ cs) = ((d : Change) → Has cs d → c.place ≢ d.place) × AreApart cs

-- The list has all changes, and nothing else; each place once; and no entry exactly where the two are the same.
pub record AreChanges (one other : Option Json) (cs : List Change) : Type 0 where
  pub sound : (c : Change) → Has cs c → IsChange one other c
  pub complete : (c : Change) → IsChange one other c → Has cs c
  pub apart : AreApart cs
  pub none : cs ≡ [] → one ≡ other
  pub same : one ≡ other → cs ≡ []

-- ---- names out of order

-- somewhere in it stands an object whose names do not rise strictly in the order of their bytes
abbrev pub HasUnordered : Option Json → Type 0
HasUnordered one = (place : List Step) × (ms : Members) × (standing place one ≡ Some (object ms)) × (AreRising (names ms) → ⊥)
