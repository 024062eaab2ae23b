-- What single entries make count. The parts of `Rules` that one call judges.
use Rattle.std.specs.Prelude.{◌≡◌, ◌↔◌, ℕ, ◌⊎◌, ◌++◌, ◌<◌, ◌≤◌, List, [], ◌∷◌, length, take, Some, Contains, IsTrue}
use Rattle.std.specs.List.{AllByRecursion}
use Rattle.keys_roles.specs.Plain.{Key, Table, RoleRule, Signature, look_up}
use Rattle.keys_roles.specs.Keys.{top_key}
use Rattle.keys_roles.specs.Rules.{AreDistinct, Counts, SpellsSignature}
use Rattle.keys_roles.specs.Verdicts.{TakesChecks, Verdict}

-- x is an element of the list, by recursion
abbrev pub IsIn : {X : Type 0} → List X → X → Type 0
IsIn [] x = ⊥
IsIn (y ∷ ys) x = (y ≡ x) ⊎ IsIn ys x

-- the entry makes the public key count
pub record CountsBy (rule : RoleRule) (table : Table) (signed : List ℕ) (entry : Signature) (top : List ℕ) : Type 0 where
  pub key : Key
  pub of_rule : IsIn rule.keyids entry.keyid
  pub of_table : look_up table entry.keyid ≡ Some key
  pub is_top : top_key key ≡ top
  pub signs : SpellsSignature key signed entry.sig

-- the list after x was taken in behind it, where x was no element
abbrev pub IsTaken : List ℕ → List (List ℕ) → List (List ℕ) → Type 0
IsTaken x xs ys = (IsIn xs x × (ys ≡ xs)) ⊎ ((IsIn xs x → ⊥) × (ys ≡ xs ++ x ∷ []))

-- the id is among the new ones, and names in their table what it names in the old one
abbrev pub IsKept : Table → List (List ℕ) → Table → List ℕ → Type 0
IsKept old_keys new new_keys id = IsIn new id × (look_up old_keys id ≡ look_up new_keys id)

-- what the verdicts say of the entry at the place is true
abbrev pub TellOf : List ℕ → ℕ → Signature → List Verdict → Type 0
TellOf signed place e known = AllByRecursion (λ v. v.pair.0 ≡ place → IsTrue v.verifies ↔ SpellsSignature v.pair.1 signed e.sig) known

-- so many of the public keys that count: at most as many as are asked for, and all where they are fewer, or as many as the entries
pub record AreCounted (rule : RoleRule) (table : Table) (signed : List ℕ) (entries : List Signature) (most count : ℕ) : Type 0 where
  pub keys : List (List ℕ)
  pub distinct : AreDistinct keys
  pub many : count ≡ length keys
  pub each : AllByRecursion (Counts rule table signed entries) keys
  pub all : (count < most) ⊎ (length entries ≤ count) → (top : List ℕ) → Counts rule table signed entries top → Contains keys top

-- so many distinct public keys have signed among these entries
pub record AreAmong (rule : RoleRule) (table : Table) (signed : List ℕ) (entries : List Signature) (count : ℕ) : Type 0 where
  pub keys : List (List ℕ)
  pub distinct : AreDistinct keys
  pub many : count ≡ length keys
  pub each : AllByRecursion (Counts rule table signed entries) keys

-- so many checks were taken by the first n entries: these are all, or as many keys as are asked for have signed among them
pub record AreChecked (rule : RoleRule) (table : Table) (signed : List ℕ) (known : List Verdict) (entries : List Signature) (most count checks : ℕ) : Type 0 where
  pub n : ℕ
  pub taken : TakesChecks rule table known 0 (take n entries) checks
  pub ended : (length entries ≤ n) ⊎ ((most ≤ count) × AreAmong rule table signed (take n entries) count)
