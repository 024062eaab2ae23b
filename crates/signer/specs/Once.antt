-- One document a version: a file is signed only where the key has signed no rival of it, and what lists of calls make of a book then.
use Rattle.std.specs.Prelude.{◌≡◌, ◌⊎◌, ℕ, List, [], ◌∷◌, Result, Ok, Err}
use Rattle.lms.specs.declared.Params.{Params}
use Rattle.lms.specs.declared.Seed.{Seed}
use Rattle.keys_roles.specs.Plain.{Signature}
use Rattle.metadata.specs.Shape.{IsSignedBy}
use Rattle.leaf_plans.specs.Book.{AreSame, Book, IsBook, key_of}
use Rattle.leaf_book.specs.Calls.{Registers}
use Rattle.leaf_book.specs.declared.faults.BookFault.{BookFault}
use Rattle.signer.specs.Files.{IsUnsignedFile, SignsFile}
use Rattle.signer.specs.Versions.{IsRivalLeaf, LacksRivalsOf}
use Rattle.signer.specs.declared.faults.SignFileFault.TheVariants.{OutOfMemory}
use Rattle.signer.specs.declared.faults.SignOnceFault.{SignOnceFault}
use Rattle.signer.specs.declared.faults.SignOnceFault.TheVariants.{Other, Unsigned}

-- The book before the call, what it answers, and the book after it. `Other` where the file is in order and this leaf is kept for a rival,
-- and then the book is as it was. Whatever else is answered, no rival was kept, or memory was refused before the book was looked through.
abbrev pub SignsOnce : Book → Seed → Params → List ℕ → Result (List ℕ) SignOnceFault → Book → Type 0
SignsOnce before seed params file (Ok out) after = SignsFile before seed params file out after × LacksRivalsOf before (key_of seed params) file
SignsOnce before seed params file (Err (Other leaf)) after =
    ((entries : List Signature) × (message : List ℕ) × IsSignedBy file entries message × IsRivalLeaf before.leaves (key_of seed params) message leaf) × (after ≡ before)
SignsOnce before seed params file (Err (Unsigned fault)) after =
    IsUnsignedFile before seed params file fault after × (LacksRivalsOf before (key_of seed params) file ⊎ ((fault ≡ OutOfMemory) × (after ≡ before)))

-- What may happen. After a crash inside a call the book is the one before the call or one after it, whatever the call would have
-- answered; a crash elsewhere leaves the book. Opening the book again may give its entries in another order.
pub data Event : Type 0 where
  register : Seed → Params → Event
  sign_once : Seed → Params → List ℕ → Event
  crash_in_register : Seed → Params → Event
  crash_in_sign_once : Seed → Params → List ℕ → Event
  crash : Event
  reopen : Event

abbrev pub Happens : Book → Event → Book → Type 0
Happens b (register seed params) c = (r : Result (List ℕ) BookFault) × Registers b seed params r c
Happens b (sign_once seed params file) c = (r : Result (List ℕ) SignOnceFault) × SignsOnce b seed params file r c
Happens b (crash_in_register seed params) c = (c ≡ b) ⊎ ((r : Result (List ℕ) BookFault) × Registers b seed params r c)
Happens b (crash_in_sign_once seed params file) c = (c ≡ b) ⊎ ((r : Result (List ℕ) SignOnceFault) × SignsOnce b seed params file r c)
Happens b crash c = c ≡ b
Happens b reopen c = AreSame b c × IsBook c

-- the events in turn
abbrev pub Runs : Book → List Event → Book → Type 0
Runs b [] d = d ≡ b
Runs b (e ∷ es) d = (c : Book) × Happens b e c × Runs c es d
