-- Words on the members of a value beside those of another.
use Rattle.std.specs.Prelude.{◌≡◌, ◌≢◌, ◌⊎◌, ℕ, List, [], ◌∷◌, ◌++◌, bytes_eq, filter, map, not}
use Rattle.std.specs.List.{AllByRecursion, list_any}
use Rattle.canonical_json.specs.Json.{Json, array, object, Items, no_items, Members, no_members, HasMember}

-- the name is none of these
abbrev pub IsNoneOf : List (List ℕ) → List ℕ → Type 0
IsNoneOf names name = AllByRecursion (λ n. n ≢ name) names

-- the two have the same members, in both directions, but for those of these names
pub record AlikeBut (names : List (List ℕ)) (a b : Json) : Type 0 where
  pub kept : (name : List ℕ) (x : Json) → IsNoneOf names name → HasMember a name x → HasMember b name x
  pub no_more : (name : List ℕ) (x : Json) → IsNoneOf names name → HasMember b name x → HasMember a name x

-- the second has one member of the name, this one, and else what the first has
pub record Puts (name : List ℕ) (x : Json) (a b : Json) : Type 0 where
  pub has : HasMember b name x
  pub only : (y : Json) → HasMember b name y → y ≡ x
  pub others : AlikeBut (name ∷ []) a b

-- the second has no member of the name, and else what the first has
pub record Drops (name : List ℕ) (a b : Json) : Type 0 where
  pub none : (y : Json) → HasMember b name y → ⊥
  pub others : AlikeBut (name ∷ []) a b

-- the value has no member of the name
abbrev pub HasNone : Json → List ℕ → Type 0
HasNone v name = (x : Json) → HasMember v name x → ⊥

-- the object that stands under the name, and one without members where no object does
abbrev pub IsObjectAt : Json → List ℕ → Json → Type 0
IsObjectAt v name m = HasMember v name m
    ⊎ ((m ≡ object no_members) × (HasNone v name ⊎ ((x : Json) × HasMember v name x × ((ms : Members) → x ≡ object ms → ⊥))))

-- the list that stands under the name, and an empty one where no list does
abbrev pub IsListAt : Json → List ℕ → Items → Type 0
IsListAt v name vs = HasMember v name (array vs)
    ⊎ ((vs ≡ no_items) × (HasNone v name ⊎ ((x : Json) × HasMember v name x × ((xs : Items) → x ≡ array xs → ⊥))))

-- the last of the rows with this name says this of it
pub record IsLast {A : Type 0} (rows : List (List ℕ × A)) (name : List ℕ) (said : A) : Type 0 where
  pub front : List (List ℕ × A)
  pub back : List (List ℕ × A)
  pub is : rows ≡ front ++ (name, said) ∷ back
  pub last : AllByRecursion (λ r. r.0 ≢ name) back

-- each name has just what is said of it last, and every other member is as it was
pub record PutsAll (rows : List (List ℕ × Json)) (a b : Json) : Type 0 where
  pub named : (name : List ℕ) (x : Json) → IsLast rows name x → HasMember b name x
  pub others : AlikeBut (map (λ r. r.0) rows) a b

-- of the members those whose names are so
pub record Keeps (P : List ℕ → Type 0) (a b : Json) : Type 0 where
  pub kept : (name : List ℕ) (x : Json) → P name → HasMember a name x → HasMember b name x
  pub only : (name : List ℕ) (x : Json) → HasMember b name x → HasMember a name x × P name

-- values in their order, each with a name
abbrev pub Rows : Type 0
Rows = List (List ℕ × Json)

-- those that have none of these names
abbrev pub without : List (List ℕ) → Rows → Rows
without names rows = filter (λ r. not (list_any (bytes_eq r.0) names)) rows
