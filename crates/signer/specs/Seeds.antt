-- Seed files.
use Rattle.std.specs.Prelude.{◌≡◌, ℕ, List, [], ◌∷◌, ◌++◌, length}
use Rattle.lms.specs.declared.Seed.{Seed}
use Rattle.keys_roles.specs.Rules.{AreDigitsOf}

-- I in 32 hex digits, SEED in 64, and a line feed
pub record IsSeedFile (file : List ℕ) (seed : Seed) : Type 0 where
  pub identifier : List ℕ
  pub secret : List ℕ
  pub identifier_digits : AreDigitsOf identifier seed.identifier
  pub secret_digits : AreDigitsOf secret seed.secret
  pub identifier_len : length seed.identifier ≡ 16
  pub secret_len : length seed.secret ≡ 32
  pub file_is : file ≡ (identifier ++ secret) ++ 10 ∷ []
