-- A JSON value as contracts see it (RFC 8259, section 3, without fractions and exponents): a text is its
-- UTF-8 bytes, and an object is its members in the order in which they stand.
use Rattle.std.specs.Prelude.{◌≡◌, ℕ, suc, max, ℤ, List, [], ◌∷◌, Bool, ◌⊎◌}

mutual
  pub data Json : Type 0 where
    null : Json
    boolean : Bool → Json
    integer : ℤ → Json
    text : List ℕ → Json
    array : Items → Json
    object : Members → Json

  pub data Items : Type 0 where
    no_items : Items
    item : Json → Items → Items

  pub data Members : Type 0 where
    no_members : Members
    member : List ℕ → Json → Members → Members

-- P of the value and of each value inside it
abbrev mutual
  pub Everywhere : (Json → Type 0) → Json → Type 0
  Everywhere P (array vs) = P (array vs) × EachItem P vs
  Everywhere P (object ms) = P (object ms) × EachMember P ms
  Everywhere P v = P v

  pub EachItem : (Json → Type 0) → Items → Type 0
  EachItem P no_items = Unit {0}
  EachItem P (item v vs) = Everywhere P v × EachItem P vs

  pub EachMember : (Json → Type 0) → Members → Type 0
  EachMember P no_members = Unit {0}
  EachMember P (member n v ms) = Everywhere P v × EachMember P ms

-- how many lists and objects stand inside one another
abbrev mutual
  pub depth : Json → ℕ
  depth (array vs) = suc (items_depth vs)
  depth (object ms) = suc (members_depth ms)
  depth v = 0

  pub items_depth : Items → ℕ
  items_depth no_items = 0
  items_depth (item v vs) = max (depth v) (items_depth vs)

  pub members_depth : Members → ℕ
  members_depth no_members = 0
  members_depth (member n v ms) = max (depth v) (members_depth ms)

-- the names of an object, in order
abbrev pub names : Members → List (List ℕ)
names no_members = []
names (member n v ms) = n ∷ names ms

-- the value has a member of this name with this value: only an object has any
abbrev pub IsAmong : List ℕ → Json → Members → Type 0
IsAmong name x no_members = ⊥
IsAmong name x (member n v ms) = ((n ≡ name) × (v ≡ x)) ⊎ IsAmong name x ms

abbrev pub HasMember : Json → List ℕ → Json → Type 0
HasMember (object ms) name x = IsAmong name x ms
HasMember v name x = ⊥

abbrev pub IsInteger : Json → Type 0
IsInteger (integer z) = Unit {0}
IsInteger v = ⊥
