-- What of a file is signed.
use Rattle.std.specs.Prelude.{ℕ, List}
use Rattle.keys_roles.specs.Plain.{Signature}

-- a file without what it says: its bytes, the bytes that were signed, and the signatures over these
pub record Signed : Type 0 where
  pub bytes : List ℕ
  pub signed : List ℕ
  pub entries : List Signature
