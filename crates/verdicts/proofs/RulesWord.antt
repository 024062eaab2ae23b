-- The word of a line that begins with `rules`.
use Rattle.std.proofs.Common.{◌≡◌, ℕ, List, [], ◌∷◌, ap, get_or, codes, arith}
use Rattle.hex.specs.Hex.{IsBytes}
use Rattle.verdicts.specs.declared.case.Case.{Case}
use Rattle.verdicts.specs.declared.case.Case.TheVariants.{Json, Lms, Hss, Key, Sign, HssMade, Calendar, Document, Asked, Match, Rules}
use Rattle.verdicts.specs.Case.{IsCase}
use Rattle.verdicts.specs.RuleCase.{IsRuleText, RuleCase, rule_case_view}
use Rattle.verdicts.specs.Words.{hex_word}

-- the word writes no case of artifact rules down
abbrev pub IsNoRules : List ℕ → Type 0
IsNoRules word = (bytes : List ℕ) (c : RuleCase) → IsBytes bytes → IsRuleText bytes c → word ≡ hex_word bytes → ⊥

-- the first byte of the first word
abbrev start : List (List ℕ) → ℕ
start ws = get_or (get_or ws 0 []) 0 0

pub no_rules : (word : List ℕ) → IsNoRules word → (c : Case) → IsCase (codes "rules" ∷ word ∷ []) c → ⊥
no_rules word bad (Json part) is = let e = ap start is.0 in omega (arith, e)
no_rules word bad (Lms public signature message) is = let e = ap start is.0 in omega (arith, e)
no_rules word bad (Hss public signature message) is = let e = ap start is.0 in omega (arith, e)
no_rules word bad (Key key) is = let e = ap start is.0 in omega (arith, e)
no_rules word bad (Sign seed params leaf message) is = let e = ap start is.0 in omega (arith, e)
no_rules word bad (HssMade seed levels leaf message) is = let e = ap start is.0 in omega (arith, e)
no_rules word bad (Calendar text) is = let e = ap start is.0 in omega (arith, e)
no_rules word bad (Document kind bytes) is = let e = ap start is.0 in omega (arith, e)
no_rules word bad (Asked text) is = let e = ap start is.0 in omega (arith, e)
no_rules word bad (Match covering pattern path) is = let e = ap start is.0 in omega (arith, e)
no_rules word bad (Rules part) is =
    bad is.0 (rule_case_view part) is.2 is.3 (ap (λ (ws : List (List ℕ)). get_or ws 1 []) is.1)
