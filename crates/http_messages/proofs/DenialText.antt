-- The text of a denial's object, where its name is of letters.
use Rattle.std.proofs.Common.{◌≡◌, ℕ, List, [], ◌∷◌, ◌++◌, Some, None, true, codes, refl, ap, ◌∙◌, append_assoc, arith}
use Rattle.std.specs.Prelude.{IsTrue}
use Rattle.std.specs.Fmt.{decimal}
use Rattle.std.specs.Char.{is_ascii_alphabetic}
use Rattle.std.specs.List.{list_all}
use Rattle.std.proofs.lemmas.Bool.Decides.{nat_tests}
use Rattle.std.proofs.lemmas.Bool.{and_parts}
use Rattle.json.specs.Print.{escape, escape_byte}
use Rattle.http_messages.specs.steps.Denials.{denied_alone, denied_at}
use Rattle.serde_json.specs.Written.{compact_text}
use Rattle.serde_json.proofs.OnLiterals.{serde_json_on_literals}
use Rattle.http_messages.specs.Bodies.{denial_text}

-- a letter is written as it is
letter : (b : ℕ) → is_ascii_alphabetic b ≡ true → escape_byte b ≡ b ∷ []
unfolding escape_byte
letter b e = grind (arith, nat_tests)

pub letters : (name : List ℕ) → IsTrue (list_all is_ascii_alphabetic name) → escape name ≡ name
letters [] e = refl
letters (b ∷ bs) e =
    let both = and_parts (is_ascii_alphabetic b) (list_all is_ascii_alphabetic bs) e in
    ap (λ l. l ++ escape bs) (letter b both.0) ∙ ap (λ l. b ∷ l) (letters bs both.1)

pub alone : (n : ℕ) (name : List ℕ) → IsTrue (list_all is_ascii_alphabetic name)
    → compact_text (denied_alone n name) ≡ denial_text n None name
unfolding serde_json_on_literals
alone n name e =
    simp append_assoc (ap (λ l. codes "{\"denial\":" ++ (decimal n ++ (codes ",\"rule\":\"" ++ (l ++ codes "\"}")))) (letters name e))

pub at : (n i : ℕ) (name : List ℕ) → IsTrue (list_all is_ascii_alphabetic name)
    → compact_text (denied_at n i name) ≡ denial_text n (Some i) name
unfolding serde_json_on_literals
at n i name e =
    simp append_assoc (ap (λ l. codes "{\"denial\":" ++ (decimal n ++ (codes ",\"index\":" ++ (decimal i ++ (codes ",\"rule\":\"" ++ (l ++ codes "\"}")))))) (letters name e))
