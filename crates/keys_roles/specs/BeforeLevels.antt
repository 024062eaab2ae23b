-- When a rule was met before keys had two schemes: each key was one of `lms-sha256`, which signed by itself and was counted whole.
-- What stands here is `Rules` over such keys; a law says that a rule which names no others is met exactly where it was.
use Rattle.std.specs.Prelude.{◌≡◌, ℕ, ◌≤◌, List, length, Some, Contains}
use Rattle.std.specs.List.{AllByRecursion}
use Rattle.lms.specs.Verifies.{Verifies}
use Rattle.keys_roles.specs.Plain.{Key, lms, Table, RoleRule, Signature, look_up}
use Rattle.keys_roles.specs.Rules.{AreDigitsOf, AreDistinct}

-- an entry for the id held a signature that verified under the public key
pub record WasSigned (public id signed : List ℕ) (entries : List Signature) : Type 0 where
  pub entry : Signature
  pub signature : List ℕ
  pub listed : Contains entries entry
  pub same_id : entry.keyid ≡ id
  pub digits : AreDigitsOf entry.sig signature
  pub verifies : Verifies public signed signature

-- the public key belonged to the rule, and what it names had signed
pub record Counted (rule : RoleRule) (table : Table) (signed : List ℕ) (entries : List Signature) (public : List ℕ) : Type 0 where
  pub id : List ℕ
  pub of_rule : Contains rule.keyids id
  pub of_table : look_up table id ≡ Some (lms public)
  pub was_signed : WasSigned public id signed entries

-- as many distinct public keys as the threshold counted
pub record WasMet (rule : RoleRule) (table : Table) (signed : List ℕ) (entries : List Signature) : Type 0 where
  pub keys : List (List ℕ)
  pub distinct : AreDistinct keys
  pub enough : rule.threshold ≤ length keys
  pub each : AllByRecursion (Counted rule table signed entries) keys

-- each key that an id of the rule names in the table is one of `lms-sha256`
abbrev pub NamesLms : RoleRule → Table → Type 0
NamesLms rule table = (id : List ℕ) (key : Key) → Contains rule.keyids id → look_up table id ≡ Some key → (public : List ℕ) × (key ≡ lms public)
