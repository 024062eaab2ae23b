-- Bodies of replies in the pieces in which they are read.
use Rattle.std.proofs.Common.{◌≡◌, ℕ, ◌<◌, List, [], ◌∷◌, ◌++◌, Option, Some, None, true, sym, ◌∙◌, append_assoc, append-nil, arith}
use Rattle.std.proofs.lemmas.Bool.{and_parts}
use Rattle.std.proofs.lemmas.Bool.Decides.{nat_tests}
use Rattle.std.proofs.lemmas.List.{append_cancel_left}
use Rattle.std.proofs.lemmas.Str.{IsUtf8-from_ascii}
use Rattle.std.proofs.lemmas.Str.Ascii.{IsAscii-nil, IsAscii-cons}
use Rattle.std.specs.Char.{is_ascii_alphabetic}
use Rattle.std.specs.List.{list_all}
use Rattle.std.specs.Str.{IsAscii, IsUtf8}
use Rattle.std.specs.Prelude.{codes}
use Rattle.std.specs.Fmt.{decimal}
use Rattle.http_messages.specs.Bodies.{accepted_text, denial_text, pruned_text}
use Rattle.http_fetch.specs.steps.Told.{index_before, two_numbers}

pub accepted_is : (a b : ℕ) → accepted_text a b ≡ two_numbers (codes "{\"accepted\":") (codes "\"same\":") a b
accepted_is a b = simp append_assoc

pub pruned_is : (a b : ℕ) → pruned_text a b ≡ two_numbers (codes "{\"blobs\":") (codes "\"rows\":") a b
pruned_is a b = simp append_assoc

-- what stands behind the number of a denial
abbrev pub behind_number : Option ℕ → List ℕ → List ℕ
behind_number index name = index_before index (codes "\"rule\":\"" ++ (name ++ codes "\"}"))

pub denial_is : (n : ℕ) (index : Option ℕ) (name : List ℕ) → denial_text n index name ≡ codes "{\"denial\":" ++ (decimal n ++ (44 ∷ behind_number index name))
denial_is n None name = simp (append_assoc, append-nil)
denial_is n (Some i) name = simp append_assoc

pub after_denial : (n : ℕ) (index : Option ℕ) (name body rest : List ℕ) → body ≡ codes "{\"denial\":" ++ rest → body ≡ denial_text n index name
    → rest ≡ decimal n ++ (44 ∷ behind_number index name)
after_denial n index name body rest a e =
    append_cancel_left (codes "{\"denial\":") rest (decimal n ++ (44 ∷ behind_number index name)) (sym a ∙ e ∙ denial_is n index name)

pub same_denial : (m n : ℕ) (i j : Option ℕ) (x y : List ℕ) → m ≡ n → i ≡ j → x ≡ y → denial_text m i x ≡ denial_text n j y
same_denial m n i j x y a b c = cc

pub same_numbers : (front between : List ℕ) (a m b n : ℕ) → a ≡ m → b ≡ n → two_numbers front between a b ≡ two_numbers front between m n
same_numbers front between a m b n p q = cc

letter_small : (b : ℕ) → is_ascii_alphabetic b ≡ true → b < 128
letter_small b e = grind (arith, nat_tests)

letters_ascii : (name : List ℕ) → list_all is_ascii_alphabetic name ≡ true → IsAscii name
letters_ascii [] e = IsAscii-nil
letters_ascii (b ∷ bs) e =
    let both = and_parts (is_ascii_alphabetic b) (list_all is_ascii_alphabetic bs) e in
    IsAscii-cons b bs (letter_small b both.0) (letters_ascii bs both.1)

pub letters_utf8 : (name : List ℕ) → list_all is_ascii_alphabetic name ≡ true → IsUtf8 name
letters_utf8 name e = IsUtf8-from_ascii name (letters_ascii name e)
