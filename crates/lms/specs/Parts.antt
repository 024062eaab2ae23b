-- The parts that the bytes of a key and of a signature are made of.
use Rattle.std.specs.Prelude.{◌≡◌, ℕ, ◌^◌, ◌<◌, List, length}
use Rattle.std.specs.List.{AllByRecursion}
use Rattle.lms.specs.declared.OtsType.{OtsType}
use Rattle.lms.specs.declared.LmsType.{LmsType}
use Rattle.lms.specs.Parameters.{chain_count, height}
use Rattle.lms.specs.Text.{public_text, signature_text, IsHash}

pub record IsKeyOf (public : List ℕ) (lms : LmsType) (ots : OtsType) (identifier root : List ℕ) : Type 0 where
  pub identifier_len : length identifier ≡ 16
  pub root_len : IsHash root
  pub key : public ≡ public_text lms ots identifier root

pub record IsSignatureOf (lms : LmsType) (ots : OtsType) (signature : List ℕ) (q : ℕ) (randomizer : List ℕ) (elements path : List (List ℕ)) : Type 0 where
  pub randomizer_len : IsHash randomizer
  pub elements_count : length elements ≡ chain_count ots
  pub elements_len : AllByRecursion IsHash elements
  pub path_count : length path ≡ height lms
  pub path_len : AllByRecursion IsHash path
  pub spelled : signature ≡ signature_text lms ots q randomizer elements path
  pub leaf : q < 2 ^ height lms
