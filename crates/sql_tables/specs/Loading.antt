-- What is read of a table.
use Rattle.std.specs.Prelude.{◌≡◌, ◌≢◌, ◌⊎◌, ◌&&◌, ℕ, ℤ, Bool, true, false, List, [], ◌∷◌, ◌++◌, map, MatchOption, Option}
use Rattle.std.specs.Ordering.{is_lt, int_cmp}
use Rattle.std.specs.declared.cmp.Ordering.{Ordering}
use Rattle.std.specs.declared.cmp.Ordering.TheVariants.{Less}
use Rattle.std.specs.List.Sorted.{IsPermutation, IsStrictlySortedBy}
use Rattle.sqlite_rules.specs.Lists.{Has}
use Rattle.sqlite_value.specs.declared.keys.Collation.TheVariants.{Binary}
use Rattle.sqlite_value.specs.declared.keys.Key.{Key}
use Rattle.sqlite_sql.specs.Query.{key_cmp}
use Rattle.sqlite.specs.declared.types.Value.TheVariants.{Int}
use Rattle.sqlite.specs.Order.{Row, column}
use Rattle.sql_tables.specs.declared.items.Place.{Place}
use Rattle.sql_tables.specs.declared.items.Place.TheVariants.{Behind, Same, Neither}

-- What was read is what the table holds, and stands in the order of these keys.
pub record AreLoaded (shown : Row → Row) (keys : List Key) (stored rows : List Row) : Type 0 where
  pub from : (x : Row) → Has rows x → (r : Row) × Has stored r × (x ≡ shown r)
  pub each : (r : Row) → Has stored r → Has rows (shown r)
  pub sorted : (before : List Row) (a b : Row) (rest : List Row) → rows ≡ before ++ a ∷ b ∷ rest → is_lt (key_cmp 0 keys b a) ≡ false
  pub once : IsPermutation (map shown stored) rows

abbrev pub rises : Key
rises = record { collation = Binary; descending = false }

-- ---- rowids that come once

-- the rowid, behind the other cells
abbrev pub with_rowid : (Row → Row) → Row → Row
with_rowid shown r = shown r ++ column r 0 ∷ []

abbrev pub comes_first : ℤ → List ℤ → Bool
comes_first id [] = true
comes_first id (next ∷ later) = is_lt (int_cmp id next)

abbrev pub rise : List ℤ → Bool
rise [] = true
rise (id ∷ later) = comes_first id later && rise later

-- the cells of this column are integers, and none comes twice: in some order they rise
abbrev pub ComeOnce : ℕ → List Row → Type 0
ComeOnce at rows = (ids : List ℤ) × IsPermutation (map (λ r. column r at) rows) (map Int ids) × (rise ids ≡ true)

-- ---- items of rows

-- each item is that of a row, and each row has its item
pub record AreRead {K V : Type 0} (Reads : Row → K × V → Type 0) (Fits : K × V → Type 0) (rows : List Row) (items : List (K × V)) : Type 0 where
  pub from : (x : K × V) → Has items x → (r : Row) × Has rows r × Reads r x
  pub each : (r : Row) → Has rows r → (x : K × V) × Has items x × Reads r x
  pub fit : (x : K × V) → Has items x → Fits x

-- the keys rise besides, and the last item is that of the last row
pub record AreGathered {K V : Type 0} (cmp : K → K → Ordering) (Reads : Row → K × V → Type 0) (Fits : K × V → Type 0) (rows : List Row) (items : List (K × V)) : Type 0 where
  pub read : AreRead Reads Fits rows items
  pub rising : IsStrictlySortedBy cmp (map (λ x. x.0) items)
  pub last : (init : List (K × V)) (y : K × V) → items ≡ init ++ y ∷ [] → (before : List Row) × (r : Row) × (rows ≡ before ++ r ∷ []) × Reads r y

-- no row has a lower key than the one before it
abbrev pub AreOrdered : {K V : Type 0} → (K → K → Ordering) → (Row → K × V → Type 0) → (K × V → Type 0) → List Row → Type 0
AreOrdered {K} {V} cmp Reads Fits rows =
    (before : List Row) (r s : Row) (rest : List Row) (x y : K × V) → rows ≡ before ++ r ∷ s ∷ rest → Reads r x → Reads s y → Fits x → Fits y → cmp y.0 x.0 ≢ Less

-- a row is that of no item that fits, or two rows have one key and two values
abbrev pub AreSpoiled : {K V : Type 0} → (Row → K × V → Type 0) → (K × V → Type 0) → List Row → Type 0
AreSpoiled {K} {V} Reads Fits rows =
    ((r : Row) × Has rows r × ((x : K × V) → Fits x → Reads r x → ⊥))
    ⊎ ((r : Row) × (s : Row) × (x : K × V) × (y : K × V) × Has rows r × Has rows s × Reads r x × Reads s y × Fits x × Fits y × (x.0 ≡ y.0) × (x ≢ y))

-- a row was read as its item, and as none where it is that of none that fits
abbrev pub IsItem : {K V T : Type 0} → (Row → K × V → Type 0) → (K × V → Type 0) → (T → K × V) → Row → Option T → Type 0
IsItem {K} {V} Reads Fits shows row found = MatchOption found ((x : K × V) → Fits x → Reads row x → ⊥) (λ item. Reads row (shows item) × Fits (shows item))

-- where an item stands to those that were read before it
abbrev pub IsPlace : {K V : Type 0} → (K → K → Ordering) → List (K × V) → K × V → Place → Type 0
IsPlace {K} {V} cmp items x Behind = (init : List (K × V)) (y : K × V) → items ≡ init ++ y ∷ [] → cmp y.0 x.0 ≡ Less
IsPlace {K} {V} cmp items x Same = (init : List (K × V)) × (items ≡ init ++ x ∷ [])
IsPlace {K} {V} cmp items x Neither = (init : List (K × V)) × (y : K × V) × (items ≡ init ++ y ∷ []) × (cmp y.0 x.0 ≢ Less) × (x ≢ y)

-- What was gathered of rows: their items, unless they are spoiled. That keys rise is known of rows that come in their order.
pub record HasGathered {K V : Type 0} (cmp : K → K → Ordering) (Reads : Row → K × V → Type 0) (Fits : K × V → Type 0) (rows : List Row) (items : List (K × V)) (is_spoiled : Bool) : Type 0 where
  pub whole : is_spoiled ≡ false → AreGathered cmp Reads Fits rows items
  pub spoiled : is_spoiled ≡ true → AreOrdered cmp Reads Fits rows → AreSpoiled Reads Fits rows
