-- Lists of calls on a book, with crashes, and what never happens twice.
use Rattle.std.specs.Prelude.{◌≡◌, ◌⊎◌, ℕ, List, [], ◌∷◌, Result, Ok, Err}
use Rattle.lms.specs.declared.Params.{Params}
use Rattle.lms.specs.declared.Seed.{Seed}
use Rattle.sqlite_rules.specs.Lists.{Has}
use Rattle.leaf_book.specs.declared.faults.BookFault.{BookFault}
use Rattle.leaf_plans.specs.Book.{AreSame, Book, IsBook, Keeps}
use Rattle.leaf_book.specs.Calls.{IsSeedOf, Registers, Reserved, Reserves, signature_by}

-- a signature that was made: the leaf that was spent for it, the seed, and its bytes
pub record Signed : Type 0 where
  pub leaf : Reserved
  pub seed : Seed
  pub bytes : List ℕ

-- the tree of a seed with these parameters, whose key `register` has answered
pub record Entered : Type 0 where
  pub seed : Seed
  pub params : Params

-- the book, all trees whose key `register` has answered so far, all leaves that `reserve` has answered, and all signatures that were made
pub record World : Type 0 where
  pub book : Book
  pub entered : List Entered
  pub reserved : List Reserved
  pub signed : List Signed

-- What may happen. After a crash inside a call the book is the one before the call or one after it, whatever the call would have
-- answered; a crash elsewhere leaves the book. Opening the book again may give its entries in another order.
pub data Event : Type 0 where
  register : Seed → Params → Event
  reserve : List ℕ → List ℕ → Event
  sign : Reserved → Seed → Event
  crash_in_register : Seed → Params → Event
  crash_in_reserve : List ℕ → List ℕ → Event
  crash : Event
  reopen : Event

abbrev pub begun : Book → World
begun b = record { book = b; entered = []; reserved = []; signed = [] }

abbrev pub more_entered : Seed → Params → Result (List ℕ) BookFault → List Entered → List Entered
more_entered seed params (Ok key) es = record { seed = seed; params = params } ∷ es
more_entered seed params (Err e) es = es

abbrev pub more_reserved : Result Reserved BookFault → List Reserved → List Reserved
more_reserved (Ok r) rs = r ∷ rs
more_reserved (Err e) rs = rs

abbrev pub Happens : World → Event → World → Type 0
Happens v (register seed params) w = (r : Result (List ℕ) BookFault) × Registers v.book seed params r w.book × (w.entered ≡ more_entered seed params r v.entered) × (w.reserved ≡ v.reserved) × (w.signed ≡ v.signed)
Happens v (reserve key message) w = (r : Result Reserved BookFault) × Reserves v.book key message r w.book × (w.entered ≡ v.entered) × (w.reserved ≡ more_reserved r v.reserved) × (w.signed ≡ v.signed)
Happens v (sign leaf seed) w =
    Has v.reserved leaf × IsSeedOf seed leaf × (w.book ≡ v.book) × (w.entered ≡ v.entered) × (w.reserved ≡ v.reserved)
    × ((w.signed ≡ v.signed) ⊎ (w.signed ≡ record { leaf = leaf; seed = seed; bytes = signature_by seed leaf } ∷ v.signed))
Happens v (crash_in_register seed params) w =
    ((w.book ≡ v.book) ⊎ ((r : Result (List ℕ) BookFault) × Registers v.book seed params r w.book)) × (w.entered ≡ v.entered) × (w.reserved ≡ v.reserved) × (w.signed ≡ v.signed)
Happens v (crash_in_reserve key message) w =
    ((w.book ≡ v.book) ⊎ ((r : Result Reserved BookFault) × Reserves v.book key message r w.book)) × (w.entered ≡ v.entered) × (w.reserved ≡ v.reserved) × (w.signed ≡ v.signed)
Happens v crash w = (w.book ≡ v.book) × (w.entered ≡ v.entered) × (w.reserved ≡ v.reserved) × (w.signed ≡ v.signed)
Happens v reopen w = AreSame v.book w.book × IsBook w.book × (w.entered ≡ v.entered) × (w.reserved ≡ v.reserved) × (w.signed ≡ v.signed)

-- the events in turn
abbrev pub Runs : World → List Event → World → Type 0
Runs v [] w = w ≡ v
Runs v (e ∷ es) w = (u : World) × Happens v e u × Runs u es w

-- the signature was made by a tree of its seed that was registered
abbrev pub IsByEntered : List Entered → Signed → Type 0
IsByEntered es s = Has es (record { seed = s.seed; params = s.leaf.params })

-- the two were made by one one-time key: they have one seed and one q (`Book.antt` of leaf_plans says why width and height are no matter)
abbrev pub AreByOneKey : Signed → Signed → Type 0
AreByOneKey s t = (s.seed ≡ t.seed) × (s.leaf.leaf ≡ t.leaf.leaf)

-- From one moment to a later one the leaf history only grows. It holds at most one message for a leaf of a key and at most one leaf
-- of a key for a message. What was signed so far is kept in it, and two signatures with one leaf of a key are of one message, and
-- the same bytes where the seed is the same. A seed has one registered tree at most, so two signatures by one one-time key are of one
-- message, and the same bytes, whatever widths and heights were named.
pub record NeverTwice (v w : World) : Type 0 where
  pub grows : (key : List ℕ) (leaf : ℕ) (message : List ℕ) → Keeps v.book key leaf message → Keeps w.book key leaf message
  pub one_message : (key : List ℕ) (leaf : ℕ) (m n : List ℕ) → Keeps w.book key leaf m → Keeps w.book key leaf n → m ≡ n
  pub one_leaf : (key : List ℕ) (k l : ℕ) (message : List ℕ) → Keeps w.book key k message → Keeps w.book key l message → k ≡ l
  pub kept : (s : Signed) → Has w.signed s → Keeps w.book s.leaf.key s.leaf.leaf s.leaf.message × (s.bytes ≡ signature_by s.seed s.leaf)
  pub same_message : (s t : Signed) → Has w.signed s → Has w.signed t → s.leaf.key ≡ t.leaf.key → s.leaf.leaf ≡ t.leaf.leaf → s.leaf.message ≡ t.leaf.message
  pub same_bytes : (s t : Signed) → Has w.signed s → Has w.signed t → s.leaf.key ≡ t.leaf.key → s.leaf.leaf ≡ t.leaf.leaf → s.seed ≡ t.seed → s.bytes ≡ t.bytes
  pub one_tree : (d e : Entered) → Has w.entered d → Has w.entered e → d.seed ≡ e.seed → d.params ≡ e.params
  pub one_time : (s t : Signed) → Has w.signed s → Has w.signed t → IsByEntered w.entered s → IsByEntered w.entered t → AreByOneKey s t → (s.leaf.message ≡ t.leaf.message) × (s.bytes ≡ t.bytes)
