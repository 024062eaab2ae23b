-- The parts of a seed file.
use Rattle.std.proofs.Common.{◌≡◌, ℕ, ◌+◌, ◌*◌, ◌≤◌, List, [], ◌∷◌, ◌++◌, length, take, drop, get_or, length-append, sym, ap, ap₂, ◌∙◌, arith}
use Rattle.std.proofs.lemmas.List.{take-append-drop, drop_more, take-append-le}
use Rattle.std.proofs.Math.Seq.{take-add, take-append_seam, drop-append_seam, get_or-append_seam}
use Rattle.std.proofs.Math.ListN.{drop_of_length-le}
use Rattle.hex.specs.Hex.{lower_digits}
use Rattle.hex.proofs.HexLemmas.{length-encode_with}
use Rattle.lms.specs.declared.Seed.{Seed}
use Rattle.keys_roles.specs.Rules.{AreDigitsOf}
use Rattle.signer.specs.Seeds.{IsSeedFile}

-- a list of 97 is its first 32, the next 64, and the last
pub parts_of : (file : List ℕ) → length file ≡ 97 → get_or file 96 0 ≡ 10
    → file ≡ (take 32 file ++ take 64 (drop 32 file)) ++ 10 ∷ []
parts_of file sized last =
    let enough : length file ≤ 97 = omega arith in
    let behind : drop 97 file ≡ [] = drop_of_length-le file enough in
    let end : drop 96 file ≡ 10 ∷ [] = drop_more file 96 0 (omega arith) ∙ ap₂ (λ (x : ℕ) (xs : List ℕ). x ∷ xs) last behind in
    sym (take-append-drop 96 file) ∙ ap₂ (λ (xs ys : List ℕ). xs ++ ys) (take-add 32 64 file) end

pub digits_length : (digits bytes : List ℕ) → AreDigitsOf digits bytes → length digits ≡ 2 * length bytes
digits_length digits bytes are = ap length are.1 ∙ length-encode_with lower_digits bytes

-- what a seed file is made of
pub record Parts (file identifier secret : List ℕ) : Type 0 where
  pub sized : length file ≡ 97
  pub last : get_or file 96 0 ≡ 10
  pub front : take 32 file ≡ identifier
  pub middle : take 64 (drop 32 file) ≡ secret

pub joined : (file identifier secret : List ℕ) → length identifier ≡ 32 → length secret ≡ 64 → file ≡ (identifier ++ secret) ++ 10 ∷ []
    → Parts file identifier secret
joined file identifier secret a b e =
    let ab : length (identifier ++ secret) ≡ 96 = length-append identifier secret ∙ (let n : length identifier + length secret ≡ 96 = omega arith in n) in
    let whole : length ((identifier ++ secret) ++ 10 ∷ []) ≡ 97 = length-append (identifier ++ secret) (10 ∷ []) ∙ (let n : length (identifier ++ secret) + 1 ≡ 97 = omega arith in n) in
    let seam : get_or ((identifier ++ secret) ++ 10 ∷ []) 96 0 ≡ 10
    = ap (λ (k : ℕ). get_or ((identifier ++ secret) ++ 10 ∷ []) k 0) (sym ab) ∙ get_or-append_seam (identifier ++ secret) 10 [] 0 in
    let first : take 96 file ≡ identifier ++ secret
    = ap (take 96) e ∙ ap (λ (k : ℕ). take k ((identifier ++ secret) ++ 10 ∷ [])) (sym ab) ∙ take-append_seam (identifier ++ secret) (10 ∷ []) in
    let front : take 32 file ≡ identifier
    = ap (take 32) e ∙ take-append-le 32 (identifier ++ secret) (10 ∷ []) (omega arith)
    ∙ ap (λ (k : ℕ). take k (identifier ++ secret)) (sym a) ∙ take-append_seam identifier secret in
    let split : take 32 file ++ take 64 (drop 32 file) ≡ identifier ++ secret = sym (take-add 32 64 file) ∙ first in
    let same : identifier ++ take 64 (drop 32 file) ≡ identifier ++ secret = ap (λ (xs : List ℕ). xs ++ take 64 (drop 32 file)) (sym front) ∙ split in
    let middle : take 64 (drop 32 file) ≡ secret
    = sym (drop-append_seam identifier (take 64 (drop 32 file))) ∙ ap (drop (length identifier)) same ∙ drop-append_seam identifier secret in
    record {
      sized = ap length e ∙ whole;
      last = ap (λ (xs : List ℕ). get_or xs 96 0) e ∙ seam;
      front = front;
      middle = middle;
    }

pub file_parts : (file : List ℕ) (seed : Seed) (f : IsSeedFile file seed) → Parts file f.identifier f.secret
file_parts file seed f =
    let i = digits_length f.identifier seed.identifier f.identifier_digits in
    let s = digits_length f.secret seed.secret f.secret_digits in
    joined file f.identifier f.secret (omega (arith, i, f.identifier_len)) (omega (arith, s, f.secret_len)) f.file_is
