-- The lines of a text that are answered so far.
use Rattle.std.proofs.Common.{◌≡◌, ℕ, ◌+◌, ◌<◌, ◌∙◌, sym, ap, refl, List, [], ◌∷◌, ◌++◌, length, append_assoc, length-append, Option, Some, None, arith}
use Rattle.std.specs.Io.BufRead.{take_through, drop_through, strip_last}
use Rattle.std.specs.Io.KnownBytes.{Appends}
use Rattle.verdicts.specs.declared.case.CaseFault.TheVariants as case_faults
use Rattle.verdicts.specs.declared.failure.Failure.TheVariants.{NotUnderstood}
use Rattle.verdicts.specs.declared.verdict.Verdict.{Verdict}
use Rattle.verdicts.specs.Case.{IsCaseFault, words_of}
use Rattle.verdicts.specs.Lines.{lines_of, ArePrinted, IsFailure}
use Rattle.verdicts.specs.Verdict.{IsAnswer, text_of}
use Rattle.verdicts.proofs.FirstLine.{lines_of-first}

-- The lines before the one of this number are answered, and these bytes are left; P holds of what is printed for them.
pub record IsSoFar (text : List ℕ) (left : Option (List ℕ)) (number : ℕ) (P : List ℕ → Type 0) : Type 0 where
  pub rest : List ℕ
  pub is_left : left ≡ Some rest
  pub before : List (List ℕ)
  pub lines : lines_of text ≡ before ++ lines_of rest
  pub counted : number ≡ length before + 1
  pub printed : List ℕ
  pub answered : ArePrinted before printed
  pub holds : P printed

-- a further line is answered
ArePrinted-more : (before : List (List ℕ)) (printed line : List ℕ) (verdict : Verdict) → ArePrinted before printed → IsAnswer line verdict
    → ArePrinted (before ++ line ∷ []) (printed ++ (text_of verdict ++ 10 ∷ []))
ArePrinted-more [] printed line verdict none answer = (verdict, [], answer, rw none refl, refl)
ArePrinted-more (first ∷ before) printed line verdict (v, more, one, is, others) answer =
    (v, more ++ (text_of verdict ++ 10 ∷ []), one, rw is (append_assoc (text_of v) (10 ∷ more) (text_of verdict ++ 10 ∷ [])), ArePrinted-more before more line verdict others answer)

-- what was read was left
some_left : (rest line : List ℕ) → line ≡ take_through 10 rest → 0 < length line → 0 < length rest
some_left [] line read some = rw read at some
some_left (b ∷ bs) line read some = omega arith

module _ (text : List ℕ) (left : Option (List ℕ)) (number : ℕ) (P : List ℕ → Type 0) (so_far : IsSoFar text left number P)
    (line : List ℕ) (read : line ≡ take_through 10 so_far.rest) (some : 0 < length line) where
  rest_some : 0 < length so_far.rest
  rest_some = some_left so_far.rest line read some

  next : lines_of so_far.rest ≡ strip_last 10 line ∷ lines_of (drop_through 10 so_far.rest)
  next = rw read (lines_of-first so_far.rest rest_some)

  pub goes_on : (left' : Option (List ℕ)) (Q : List ℕ → Type 0) (verdict : Verdict)
      → left' ≡ Some (drop_through 10 so_far.rest) → IsAnswer (strip_last 10 line) verdict
      → ((printed : List ℕ) → P printed → Q (printed ++ (text_of verdict ++ 10 ∷ []))) → IsSoFar text left' (number + 1) Q
  goes_on left' Q verdict is answer prints =
      record {
        rest = drop_through 10 so_far.rest;
        is_left = is;
        before = so_far.before ++ strip_last 10 line ∷ [];
        lines = so_far.lines ∙ ap (λ (ls : List (List ℕ)). so_far.before ++ ls) next
            ∙ sym (append_assoc so_far.before (strip_last 10 line ∷ []) (lines_of (drop_through 10 so_far.rest)));
        counted = omega (arith, so_far.counted, length-append so_far.before (strip_last 10 line ∷ []));
        printed = so_far.printed ++ (text_of verdict ++ 10 ∷ []);
        answered = ArePrinted-more so_far.before so_far.printed (strip_last 10 line) verdict so_far.answered answer;
        holds = prints so_far.printed so_far.holds;
      }

  pub stops : IsCaseFault (words_of (strip_last 10 line)) case_faults.NotUnderstood → IsFailure text P (NotUnderstood number)
  stops bad = (
    so_far.printed,
    record {
      before = so_far.before;
      line = strip_last 10 line;
      behind = lines_of (drop_through 10 so_far.rest);
      lines = so_far.lines ∙ ap (λ (ls : List (List ℕ)). so_far.before ++ ls) next;
      counted = so_far.counted;
      bad = bad;
      answered = so_far.answered;
    },
    so_far.holds,
  )

-- what a writer got, and then got
pub Appends-both : (a b c : Option (List ℕ)) (xs ys : List ℕ) → Appends a b xs → Appends b c ys → Appends a c (xs ++ ys)
Appends-both None b c xs ys p q = tt
Appends-both (Some old) None c xs ys p q = absurd p
Appends-both (Some old) (Some mid) None xs ys p q = absurd q
Appends-both (Some old) (Some mid) (Some new) xs ys p q = rw p at q ∙ append_assoc old xs ys
