-- Lists of signings on a book, with crashes: no one-time key signs two messages. A one-time key is named by the seed and by q alone
-- (RFC 8554, appendix A; `Book.antt` of leaf_plans): the events may name any width and height. A signature of two levels is two signatures,
-- each by a one-time key of its tree: the top tree's is of the public key of the tree below, which is its message.
use Rattle.std.specs.Prelude.{◌≡◌, ◌⊎◌, ℕ, List, [], ◌∷◌, Result}
use Rattle.lms.specs.declared.Params.{Params}
use Rattle.lms.specs.declared.Seed.{Seed}
use Rattle.lms.specs.HssKeys.{HssPair}
use Rattle.lms.specs.Keys.{Pair}
use Rattle.sqlite_rules.specs.Lists.{Has}
use Rattle.leaf_plans.specs.Book.{AreSame, Book, IsBook}
use Rattle.leaf_book.specs.Calls.{Registers}
use Rattle.leaf_book.specs.Runs.{AreByOneKey, Signed}
use Rattle.leaf_book.specs.declared.faults.BookFault.{BookFault}
use Rattle.signer.specs.Below.{below_of, top_of}
use Rattle.signer.specs.BelowOnce.{IsBegunFileBelow, IsUnsignedFileBelow, SignsFileBelow}
use Rattle.signer.specs.Files.{IsBegunFile, IsUnsignedFile, SignsFile}
use Rattle.signer.specs.Levels.{IsBegunBelow, IsUnsignedBelow, SignsBelow}
use Rattle.signer.specs.Messages.{IsBegun, IsUnsigned, Signs}
use Rattle.signer.specs.declared.faults.SignFileFault.{SignFileFault}

-- the book, and all signatures that were made so far
pub record Work : Type 0 where
  pub book : Book
  pub made : List Signed

abbrev pub begun : Book → Work
begun b = record { book = b; made = [] }

-- What may happen: a registration, `sign_message`, `sign_below` or one of the calls that sign a file, with whatever outcome; a crash inside of
-- one, which hands no signature on; a crash elsewhere; and opening the book again, which may give its entries in another order.
pub data Event : Type 0 where
  register : Seed → Params → Event
  sign : Seed → Params → List ℕ → Event
  sign_file : Seed → Params → List ℕ → Event
  sign_below : Pair → ℕ → Pair → List ℕ → Event
  sign_file_below : HssPair → List ℕ → Event
  crash_in_register : Seed → Params → Event
  crash_in_sign : Seed → Params → List ℕ → Event
  crash_in_sign_file : Seed → Params → List ℕ → Event
  crash_in_sign_below : Pair → Pair → List ℕ → Event
  crash_in_sign_file_below : HssPair → List ℕ → Event
  crash : Event
  reopen : Event

-- one signature more, of this message, by the seed's tree with these parameters
abbrev pub IsMade : Work → Seed → Params → List ℕ → Work → Type 0
IsMade v seed params message w =
    (signature : List ℕ) × (s : Signs v.book seed params message signature w.book) × (w.made ≡ record { leaf = s.leaf; seed = seed; bytes = signature } ∷ v.made)

-- the signatures of both levels, before those that were made
abbrev pub with_both : (before : Book) (top : Pair) (q : ℕ) (below : Pair) (message signature : List ℕ) (after : Book)
    → SignsBelow before top q below message signature after → List Signed → List Signed
with_both before top q below message signature after s made =
    record { leaf = s.signs_message.leaf; seed = below.seed; bytes = s.last } ∷ record { leaf = s.signs_key.leaf; seed = top.seed; bytes = s.first } ∷ made

-- both of a message more
abbrev pub AreMade : Work → Pair → ℕ → Pair → List ℕ → Work → Type 0
AreMade v top q below message w =
    (signature : List ℕ) × (s : SignsBelow v.book top q below message signature w.book) × (w.made ≡ with_both v.book top q below message signature w.book s v.made)

abbrev pub Happens : Work → Event → Work → Type 0
Happens v (register seed params) w = ((r : Result (List ℕ) BookFault) × Registers v.book seed params r w.book) × (w.made ≡ v.made)
Happens v (sign seed params message) w = IsMade v seed params message w ⊎ (((fault : BookFault) × IsUnsigned v.book seed params message fault w.book) × (w.made ≡ v.made))
Happens v (sign_file seed params file) w =
    ((out : List ℕ) × (s : SignsFile v.book seed params file out w.book) × (w.made ≡ record { leaf = s.signs.leaf; seed = seed; bytes = s.signature } ∷ v.made))
    ⊎ (((fault : SignFileFault) × IsUnsignedFile v.book seed params file fault w.book) × (w.made ≡ v.made))
Happens v (sign_below top q below message) w =
    AreMade v top q below message w ⊎ (((fault : BookFault) × IsUnsignedBelow v.book top q below message fault w.book) × (w.made ≡ v.made))
Happens v (sign_file_below p file) w =
    ((out : List ℕ) × (s : SignsFileBelow v.book p file out w.book)
    × (w.made ≡ with_both v.book (top_of p) s.q (below_of p s.q) s.message s.signature w.book s.signs v.made))
    ⊎ (((fault : SignFileFault) × IsUnsignedFileBelow v.book p file fault w.book) × (w.made ≡ v.made))
Happens v (crash_in_register seed params) w = ((w.book ≡ v.book) ⊎ ((r : Result (List ℕ) BookFault) × Registers v.book seed params r w.book)) × (w.made ≡ v.made)
Happens v (crash_in_sign seed params message) w = IsBegun v.book seed params message w.book × (w.made ≡ v.made)
Happens v (crash_in_sign_file seed params file) w = IsBegunFile v.book seed params file w.book × (w.made ≡ v.made)
Happens v (crash_in_sign_below top below message) w = IsBegunBelow v.book top below message w.book × (w.made ≡ v.made)
Happens v (crash_in_sign_file_below p file) w = IsBegunFileBelow v.book p file w.book × (w.made ≡ v.made)
Happens v crash w = (w.book ≡ v.book) × (w.made ≡ v.made)
Happens v reopen w = AreSame v.book w.book × IsBook w.book × (w.made ≡ v.made)

-- the events in turn
abbrev pub Runs : Work → List Event → Work → Type 0
Runs v [] w = w ≡ v
Runs v (e ∷ es) w = (u : Work) × Happens v e u × Runs u es w

-- two signatures by one one-time key are of one message, and the same bytes
abbrev pub AreOneTime : List Signed → Type 0
AreOneTime made = (s t : Signed) → Has made s → Has made t → AreByOneKey s t → (s.leaf.message ≡ t.leaf.message) × (s.bytes ≡ t.bytes)
