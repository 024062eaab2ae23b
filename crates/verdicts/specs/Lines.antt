-- The lines of a text, and what is printed for them.
use Rattle.std.specs.Prelude.{◌≡◌, ◌==◌, ℕ, ◌+◌, List, [], ◌∷◌, ◌++◌, length, if◌then◌else◌}
use Rattle.std.specs.List.{onto_first}
use Rattle.verdicts.specs.declared.case.CaseFault.TheVariants as case_faults
use Rattle.verdicts.specs.declared.failure.Failure.{Failure}
use Rattle.verdicts.specs.declared.failure.Failure.TheVariants.{NotUnderstood, Memory, File}
use Rattle.verdicts.specs.declared.verdict.Verdict.{Verdict}
use Rattle.verdicts.specs.Case.{IsCaseFault, words_of}
use Rattle.verdicts.specs.Verdict.{IsAnswer, text_of}

-- the lines of a text, each without its line break, which the last may lack
abbrev pub lines_of : List ℕ → List (List ℕ)
lines_of [] = []
lines_of (b ∷ bs) = if b == 10 then [] ∷ lines_of bs else onto_first b (lines_of bs)

-- what is printed for lines: the verdict on each with a line break, in their order
abbrev pub ArePrinted : List (List ℕ) → List ℕ → Type 0
ArePrinted [] printed = printed ≡ []
ArePrinted (line ∷ lines) printed =
    (verdict : Verdict) × (more : List ℕ) × IsAnswer line verdict × (printed ≡ text_of verdict ++ 10 ∷ more)
    × ArePrinted lines more

-- the line of this number, from 1, is the first of the text that is no case, and this is printed for those before it
pub record IsFirstBad (text : List ℕ) (number : ℕ) (printed : List ℕ) : Type 0 where
  pub before : List (List ℕ)
  pub line : List ℕ
  pub behind : List (List ℕ)
  pub lines : lines_of text ≡ before ++ line ∷ behind
  pub counted : number ≡ length before + 1
  pub bad : IsCaseFault (words_of line) case_faults.NotUnderstood
  pub answered : ArePrinted before printed

-- what a failure says of the text, where P holds of what is printed; the two others say nothing
abbrev pub IsFailure : List ℕ → (List ℕ → Type 0) → Failure → Type 0
IsFailure text P (NotUnderstood number) = (printed : List ℕ) × IsFirstBad text number printed × P printed
IsFailure text P Memory = Unit {0}
IsFailure text P File = Unit {0}
