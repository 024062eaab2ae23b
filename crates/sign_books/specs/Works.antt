-- What a command does over a book of leaves: registrations and signings, of which the law `signer::one_time_keys` speaks.
use Rattle.std.specs.Prelude.{List, Result, Ok, Err, ℕ}
use Rattle.leaf_plans.specs.Book.{Book, IsBook}
use Rattle.leaf_book.specs.Runs.{Signed}
use Rattle.signer.specs.BelowOnce.{SignsBelowOnce, SignsFileBelow}
use Rattle.signer.specs.Files.{SignsFile}
use Rattle.signer.specs.Once.{SignsOnce}
use Rattle.signer.specs.OneTime.{Event, Runs}
use Rattle.cli_faults.specs.declared.fault.Fault.{Fault}
use Rattle.sign_books.specs.declared.pairs.Pair.{Pair}
use Rattle.sign_books.specs.declared.pairs.Pair.TheVariants.{One, Two}

-- events of that law lead from the one book to the other, whatever was signed before
abbrev pub Leads : Book → Book → Type 0
Leads b c = (events : List Event) × ((made : List Signed) → (more : List Signed) × Runs (record { book = b; made = made }) events (record { book = c; made = more }))

-- the second file is the first one with an entry of the pair's key, by a leaf that the book keeps since for what is signed
abbrev pub IsSignedBy : Pair → List ℕ → Book → List ℕ → Book → Type 0
IsSignedBy (One pair) file b out c = SignsFile b pair.seed pair.params file out c
IsSignedBy (Two pair) file b out c = SignsFileBelow b pair file out c

-- and before, the book kept no leaf of the key for another document of its kind and version
abbrev pub IsSignedOnceBy : Pair → List ℕ → Book → List ℕ → Book → Type 0
IsSignedOnceBy (One pair) file b out c = SignsOnce b pair.seed pair.params file (Ok out) c
IsSignedOnceBy (Two pair) file b out c = SignsBelowOnce b pair file (Ok out) c

-- the work as it was, the book before it, what came of it, the book then, and the work as it is left
abbrev pub Does : Type 0 → Type 0 → Type 1
Does Work Done = Work → Book → Result Done Fault → Book → Work → Type 0

-- What is answered came of the work, which was done once, over a book in order, by events of the law (`over`). Or the answer is a fault,
-- and what came of the work is not handed on (`unclosed`: the book's log could not be copied), or no book was opened, and the work is as it
-- was (`unopened`). It does not say that the log is copied wherever the answer is none.
pub data Worked {Work Done : Type 0} (does : Does Work Done) (work : Work) : Result Done Fault → Work → Type 0 where
  over : {r : Result Done Fault} {left : Work} (b c : Book) → IsBook b → Leads b c → does work b r c left → Worked does work r left
  unclosed : {r : Result Done Fault} {fault : Fault} {left : Work} (b c : Book) → IsBook b → Leads b c → does work b r c left → Worked does work (Err fault) left
  unopened : {fault : Fault} → Worked does work (Err fault) work
