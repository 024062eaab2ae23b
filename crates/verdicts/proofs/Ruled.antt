-- Lists of words that are read as rules so far, and what a judgement of rules says of the case.
use Rattle.std.proofs.Common.{◌≡◌, ◌∙◌, ℕ, suc, List, [], ◌∷◌, ◌++◌, length, Some, slice_get, refl, sym, ap, subst}
use Rattle.std.proofs.lemmas.List.{append_assoc}
use Rattle.document_parts.specs.Links.{Link}
use Rattle.document_parts.specs.Rules.{ArtifactRule, AreWordsOf}
use Rattle.verdicts.specs.RuleCase.{AreJudged, AreRules, IsFirstNoRule, RuleCase}

same_count : (lists : List (List (List ℕ))) (rules : List ArtifactRule) → AreRules lists rules → length lists ≡ length rules
same_count [] [] h = refl
same_count [] (r ∷ rs) h = absurd h
same_count (ws ∷ lists) [] h = absurd h
same_count (ws ∷ lists) (r ∷ rs) h = ap suc (same_count lists rs h.1)

pub one_more : (lists : List (List (List ℕ))) (rules : List ArtifactRule) (words : List (List ℕ)) (rule : ArtifactRule) → AreRules lists rules → AreWordsOf words rule
    → AreRules (lists ++ words ∷ []) (rules ++ rule ∷ [])
one_more [] [] words rule h is = (is, tt)
one_more [] (r ∷ rs) words rule h is = absurd h
one_more (ws ∷ lists) [] words rule h is = absurd h
one_more (ws ∷ lists) (r ∷ rs) words rule h is = (h.0, one_more lists rs words rule h.1 is)

module _ (lists before rest behind : List (List (List ℕ))) (words : List (List ℕ)) (parted : lists ≡ before ++ rest) (first : rest ≡ words ∷ behind) where
  here : lists ≡ before ++ words ∷ behind
  here = parted ∙ ap (λ (z : List (List (List ℕ))). before ++ z) first

  pub parted_later : lists ≡ (before ++ words ∷ []) ++ behind
  parted_later = here ∙ sym (append_assoc before (words ∷ []) behind)

  pub no_rule : (rules : List ArtifactRule) (place : ℕ) → AreRules before rules → place ≡ length rules → ((r : ArtifactRule) → AreWordsOf words r → ⊥) → IsFirstNoRule lists place
  no_rule rules place read counted none = record {
    before = before;
    words = words;
    behind = behind;
    rules = rules;
    parted = here;
    counted = counted ∙ sym (same_count before rules read);
    read = read;
    none = none;
  }

-- what holds of the links that were judged holds of those of the case
pub judged_by : (c : RuleCase) (own : Link) (links : List Link) (rules : List ArtifactRule) (P : Link → List Link → List ArtifactRule → Type 0)
    → slice_get c.links c.own ≡ Some own → AreRules c.rules rules → links ≡ c.links → P own links rules → AreJudged c (λ l rs. P l c.links rs)
judged_by c own links rules P at read same p = record {
  link = own;
  rules = rules;
  own = at;
  read = read;
  judged = subst (λ (z : List Link). P own z rules) same p;
}
