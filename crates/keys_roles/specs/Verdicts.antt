-- What is known of a file's signatures before they are checked.
use Rattle.std.specs.Prelude.{◌≡◌, ◌↔◌, ◌+◌, ◌≤◌, ℕ, suc, Bool, true, false, cond, not, ◌&&◌, List, [], ◌∷◌, length, filter, slice_get, Option, Some, None, bytes_eq, nat_eq, IsTrue, IsSomeAnd}
use Rattle.std.specs.List.{AllByRecursion, list_any}
use Rattle.keys_roles.specs.Plain.{Key, lms, hss, Table, RoleRule, Signature, look_up}
use Rattle.keys_roles.specs.Rules.{AreDigitsOf, SpellsSignature}

-- a signature entry by its place in the file's list, and a whole public key
abbrev pub Pair : Type 0
Pair = ℕ × Key

abbrev pub same_key : Key → Key → Bool
same_key (lms a) (lms b) = bytes_eq a b
same_key (lms a) (hss b) = false
same_key (hss a) (lms b) = false
same_key (hss a) (hss b) = bytes_eq a b

abbrev pub same_pair : Pair → Pair → Bool
same_pair p q = nat_eq p.0 q.0 && same_key p.1 q.1

-- the key that an id of the rule names in the table
abbrev pub named_key : RoleRule → Table → List ℕ → Option Key
named_key rule table id = cond (list_any (λ own. bytes_eq own id) rule.keyids) (look_up table id) None

abbrev pub with_pair : ℕ → Option Key → List Pair → List Pair
with_pair place None pairs = pairs
with_pair place (Some key) pairs = (place, key) ∷ pairs

-- the pairs of a file under a rule: each entry whose id stands in the rule, with the key that the id names
abbrev pub pairs_from : RoleRule → Table → ℕ → List Signature → List Pair
pairs_from rule table place [] = []
pairs_from rule table place (e ∷ es) = with_pair place (named_key rule table e.keyid) (pairs_from rule table (suc place) es)

abbrev pub pairs : RoleRule → Table → List Signature → List Pair
pairs rule table entries = pairs_from rule table 0 entries

-- whether the signature of a pair verifies under its key
pub record Verdict : Type 0 where
  pub pair : Pair
  pub verifies : Bool

-- the verdict is the truth of verification over the file's own bytes
abbrev pub IsVerdict : List ℕ → List Signature → Verdict → Type 0
IsVerdict signed entries v = IsSomeAnd (slice_get entries v.pair.0) (λ e. IsTrue v.verifies ↔ SpellsSignature v.pair.1 signed e.sig)

abbrev pub AreVerdicts : List ℕ → List Signature → List Verdict → Type 0
AreVerdicts signed entries known = AllByRecursion (IsVerdict signed entries) known

-- whether something is known of the pair, and how many of the pairs nothing is known of
abbrev pub is_known : List Verdict → Pair → Bool
is_known known pair = list_any (λ v. same_pair v.pair pair) known

abbrev pub unknown : List Verdict → List Pair → ℕ
unknown known ps = length (filter (λ p. not (is_known known p)) ps)

-- so many checks the digits of a signature take: one where they spell as many bytes as the longest signature has at most, else none
pub record TakesCheck (digits : List ℕ) (count : ℕ) : Type 0 where
  pub one : (bytes : List ℕ) → AreDigitsOf digits bytes → length bytes ≤ 74988 → count ≡ 1
  pub none : ((bytes : List ℕ) → AreDigitsOf digits bytes → length bytes ≤ 74988 → ⊥) → count ≡ 0

-- and none where something is known of the pair, and where the id names no key
abbrev pub TakesPair : Bool → List ℕ → ℕ → Type 0
TakesPair true digits count = count ≡ 0
TakesPair false digits count = TakesCheck digits count

abbrev pub TakesEntry : List Verdict → ℕ → Option Key → List ℕ → ℕ → Type 0
TakesEntry known place None digits count = count ≡ 0
TakesEntry known place (Some key) digits count = TakesPair (is_known known (place, key)) digits count

-- so many take the entries from a place on, one after another
abbrev pub TakesChecks : RoleRule → Table → List Verdict → ℕ → List Signature → ℕ → Type 0
TakesChecks rule table known place [] count = count ≡ 0
TakesChecks rule table known place (e ∷ es) count =
    (here : ℕ) × (later : ℕ) × (count ≡ here + later)
    × TakesEntry known place (named_key rule table e.keyid) e.sig here × TakesChecks rule table known (suc place) es later
