-- What is read of the two tables.
use Rattle.std.specs.Prelude.{◌≡◌, ◌≢◌, ◌⊎◌, ◌<◌, List, [], ◌∷◌, ◌++◌}
use Rattle.sqlite.specs.Order.{Row, column}
use Rattle.sqlite_rules.specs.Lists.{Has}
use Rattle.lms.specs.declared.Params.{Params}
use Rattle.lms.specs.Keys.{leaf_count}
use Rattle.sqlite_trees.specs.Tree.{Trees}
use Rattle.sql_tables.specs.Loading.{AreLoaded}
use Rattle.leaf_book.specs.declared.loading.QueriedRows.{QueriedRows}
use Rattle.leaf_book.specs.declared.reading.Place.{Place}
use Rattle.leaf_book.specs.declared.reading.Place.TheVariants.{New, Same, Clash}
use Rattle.leaf_plans.specs.Book.{IsKeyId, LeafRow, Signer}

-- the cells of a stored row behind its rowid
abbrev pub three_cells : Row → Row
three_cells r = column r 1 ∷ column r 2 ∷ column r 3 ∷ []

-- signers of a book that is in order
pub record AreSigners (ss : List Signer) : Type 0 where
  pub ids : (s : Signer) → Has ss s → IsKeyId s.key
  pub one : (s t : Signer) → Has ss s → Has ss t → s.key ≡ t.key → s ≡ t

-- leaves of a book that is in order, beside these signers
pub record AreLeaves (ss : List Signer) (es : List LeafRow) : Type 0 where
  pub known : (e : LeafRow) → Has es e → (params : Params) × Has ss (record { key = e.key; params = params }) × (e.leaf < leaf_count params)
  pub one_message : (e f : LeafRow) → Has es e → Has es f → e.key ≡ f.key → e.leaf ≡ f.leaf → e ≡ f
  pub one_leaf : (e f : LeafRow) → Has es e → Has es f → e.key ≡ f.key → e.message ≡ f.message → e ≡ f

-- two entries that no book in order has both
abbrev pub Clashes : LeafRow → LeafRow → Type 0
Clashes e f = (e.key ≡ f.key) × (((e.leaf ≡ f.leaf) × (e.message ≢ f.message)) ⊎ ((e.leaf ≢ f.leaf) × (e.message ≡ f.message)))

-- where an entry stands to those that were read before it
abbrev pub IsPlace : List LeafRow → LeafRow → Place → Type 0
IsPlace es e New = (f : LeafRow) → Has es f → f.key ≡ e.key → (f.leaf ≢ e.leaf) × (f.message ≢ e.message)
IsPlace es e Same = Has es e
IsPlace es e Clash = (f : LeafRow) × Has es f × Clashes f e

-- the list with the value, where it was not there
abbrev pub IsAddedSigner : List Signer → Signer → List Signer → Type 0
IsAddedSigner was s now = (Has was s × (now ≡ was)) ⊎ (((t : Signer) → Has was t → t.key ≡ s.key → ⊥) × (now ≡ was ++ s ∷ []))

abbrev pub IsAddedLeaf : List LeafRow → LeafRow → List LeafRow → Type 0
IsAddedLeaf was e now = (Has was e × (now ≡ was)) ⊎ (IsPlace was e New × (now ≡ was ++ e ∷ []))

-- what the two queries answer
pub record AreQueried (trees : Trees) (a : QueriedRows) : Type 0 where
  pub signers : AreLoaded three_cells [] (trees 0) a.signers.items
  pub leaves : AreLoaded three_cells [] (trees 2) a.leaves.items
