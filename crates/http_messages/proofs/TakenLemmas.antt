-- Laws of what a writer took.
use Rattle.std.proofs.Common.{◌≡◌, ℕ, ◌-◌, List, [], ◌++◌, Bool, true, ◌==◌, length, take, drop, Option, Some, None, Result, Ok, Err, sym, ap, ◌∙◌, append_assoc, take-append-drop, subst}
use Rattle.std.proofs.lemmas.Bool.{eqb-true}
use Rattle.std.proofs.lemmas.List.{take_rest, nil_from_length}
use Rattle.std.specs.Io.KnownBytes.{Appends, Keeps, WriteAppends}
use Rattle.std.proofs.KnownBytes.{Appends-trans}
use Rattle.http_messages.specs.Taken.{TookSome}

pub moves_front : (all done rest : List ℕ) (n : ℕ) → all ≡ done ++ rest → all ≡ (done ++ take n rest) ++ take (length rest - n) (drop n rest)
moves_front all done rest n e =
    e ∙ ap (λ l. done ++ l) (sym (take-append-drop n rest)) ∙ sym (append_assoc done (take n rest) (drop n rest)) ∙ ap (λ l. (done ++ take n rest) ++ l) (sym (take_rest rest n))

-- all of a text came before
pub took-after : (a b c : Option (List ℕ)) (front text : List ℕ) → Appends a b front → TookSome b c text → TookSome a c (front ++ text)
took-after a b c front text all (part, rest, e, took) =
    (front ++ part, rest, ap (λ l. front ++ l) e ∙ sym (append_assoc front part rest), Appends-trans a b c front part all took)

-- a text in two pieces, of which n bytes more were taken
pub moves_both : (all done rest : List ℕ) (n : ℕ) → all ≡ done ++ rest → all ≡ (done ++ take n rest) ++ drop n rest
moves_both all done rest n e =
    e ∙ ap (λ l. done ++ l) (sym (take-append-drop n rest)) ∙ sym (append_assoc done (take n rest) (drop n rest))

-- what was taken stays taken
took-done : (a b c : Option (List ℕ)) (all done rest : List ℕ) → all ≡ done ++ rest → Appends a b done → Keeps b c → TookSome a c all
took-done None b c all done rest e h k = (done, rest, e, tt)
took-done (Some x) None c all done rest e h k = absurd h
took-done (Some x) (Some y) None all done rest e h k = absurd k
took-done (Some x) (Some y) (Some z) all done rest e h k = (done, rest, e, k ∙ h)

-- what a call took, or did not
pub took-call : {E : Type 0} (a b c : Option (List ℕ)) (all done rest : List ℕ) (r : Result ℕ E) → all ≡ done ++ rest → Appends a b done → WriteAppends b c r rest → TookSome a c all
took-call a b c all done rest (Ok n) e h k = (done ++ take n rest, drop n rest, moves_both all done rest n e, Appends-trans a b c done (take n rest) h k)
took-call a b c all done rest (Err x) e h k = took-done a b c all done rest e h k

-- the first of two pieces came before, and the other is taken
pub took-second : (a b c : Option (List ℕ)) (all done first second : List ℕ) → all ≡ done ++ (first ++ second) → first ≡ []
    → Appends a b done → TookSome b c second → TookSome a c all
took-second a b c all done first second e none h k =
    subst (TookSome a c) (sym (e ∙ ap (λ l. done ++ (l ++ second)) none)) (took-after a b c done second h k)

-- a piece that is found empty
pub is_empty : (xs : List ℕ) (found : Bool) → found ≡ (length xs == 0) → found ≡ true → xs ≡ []
is_empty xs found e t = nil_from_length xs (eqb-true (length xs) 0 (sym e ∙ t))
