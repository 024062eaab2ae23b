-- What a search finds that has the layout that the root requires.
use Rattle.std.proofs.Common.{ℕ, Ok, Err}
use Rattle.document_parts.specs.Documents.{Root}
use Rattle.metadata.specs.File.{Bytes}
use Rattle.denials.specs.Orders.{Judged, Stop, pass, decide, fails, given}
use Rattle.delegations.specs.Search.{Found, Shelf, search}
use Rattle.trust_rules.specs.Misses.{IsFound, IsThere}
use Rattle.trust_rules.specs.Grants.{searched}

-- the search finds it
pub searched_finds : (root : Root) (V : Shelf) (path : Bytes) (now : ℕ) (found : Found) → searched root V path now (Ok found) → search V path now (Ok found)
searched_finds root V path now _ (pass h (pass c given)) = h

-- what is missing is missing in the search
pub searched_misses : (root : Root) (V : Shelf) (path : Bytes) (now : ℕ) (s : Stop) → (IsFound s → ⊥) → searched root V path now (Err s) → search V path now (Err s)
searched_misses root V path now s is (decide h) = h
searched_misses root V path now _ is (pass h (decide (fails f))) = absurd (is tt)
searched_misses root V path now s is (pass h (pass c g)) = elim g [ ]

-- from one shelf to another
pub searched_same : (root : Root) (V W : Shelf) (path : Bytes) (now : ℕ) → ((j : Judged Found) → search V path now j → search W path now j)
    → (j : Judged Found) → searched root V path now j → searched root W path now j
searched_same root V W path now so _ (decide h) = decide (so _ h)
searched_same root V W path now so _ (pass h k) = pass (so _ h) k

-- the same where nothing is missing
pub searched_alike : (root : Root) (V W : Shelf) (path : Bytes) (now : ℕ) → ((j : Judged Found) → IsThere j → search V path now j → search W path now j)
    → (j : Judged Found) → IsThere j → searched root V path now j → searched root W path now j
searched_alike root V W path now so _ fine (decide h) = decide (so _ fine h)
searched_alike root V W path now so _ fine (pass {a = found} h k) = pass (so (Ok found) tt h) k
