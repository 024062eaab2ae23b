-- Words that write no number of a leaf down.
use Rattle.std.proofs.Common.{◌≡◌, ℕ, ◌<◌, ◌^◌, ◌∙◌, List, Result, Ok, Err, decimal, arith}
use Rattle.std.specs.Str.{IsUtf8}
use Rattle.std.specs.Str.Parse.{ParsesUnsigned}
use Rattle.std.proofs.lemmas.Fmt.{parse-decimal, IsAscii-decimal}
use Rattle.std.proofs.lemmas.Str.{IsUtf8-from_ascii}

-- the word stands for no leaf
abbrev pub IsNoLeaf : List ℕ → Type 0
IsNoLeaf word = (leaf : ℕ) → leaf < 2 ^ 32 → word ≡ decimal leaf → ⊥

-- what is no text
pub no_text : (word : List ℕ) → (IsUtf8 word → ⊥) → IsNoLeaf word
no_text word other leaf few is = other (rw is (IsUtf8-from_ascii (decimal leaf) (IsAscii-decimal leaf (omega arith))))

-- what is not parsed
pub unparsed : {E : Type 0} (word text : List ℕ) (r : Result ℕ E) (e : E) → text ≡ word → ParsesUnsigned 32 10 text r → r ≡ Err e → IsNoLeaf word
unparsed word text r e same parsed bad leaf few is =
    let good : r ≡ Ok leaf = parse-decimal 32 leaf text r few (omega arith) (same ∙ is) parsed in
    cc

-- what is not the text of the number that it is parsed as
pub respelled : {E : Type 0} (word text : List ℕ) (r : Result ℕ E) (n : ℕ) → text ≡ word → ParsesUnsigned 32 10 text r → r ≡ Ok n
    → (word ≡ decimal n → ⊥) → IsNoLeaf word
respelled word text r n same parsed good unlike leaf few is =
    let found : r ≡ Ok leaf = parse-decimal 32 leaf text r few (omega arith) (same ∙ is) parsed in
    let one : leaf ≡ n = cc in
    unlike (rw one at is)
