-- A case of artifact rules: how it is written down, and what it comes to.
use Rattle.std.specs.Prelude.{◌≡◌, ℕ, List, [], ◌∷◌, ◌++◌, length, map, codes, Some, slice_get, String, Vec, string_bytes}
use Rattle.std.specs.declared.alloc.Global.{Global}
use Rattle.canonical_json.specs.Json.{Json, text, object, no_members, member}
use Rattle.canonical_json.specs.Spelling.{IsCanonical}
use Rattle.path_patterns.specs.Grammar.{IsName}
use Rattle.document_parts.specs.Bodies.{AreArtifacts}
use Rattle.document_parts.specs.Links.{Link}
use Rattle.document_parts.specs.Members.{IsArray, IsObject, IsText}
use Rattle.document_parts.specs.Rules.{ArtifactRule, AreWordsOf, Side, materials, products}
use Rattle.document_parts.specs.RuleViews.{link_view, side_view}
use Rattle.verdicts.specs.declared.rule_case.RuleCase as code

-- Links of steps, of which the one of this place is judged; the words of each rule; and the side of the link that the rules are about.
pub record RuleCase : Type 0 where
  pub links : List Link
  pub own : ℕ
  pub rules : List (List (List ℕ))
  pub side : Side

-- lists of texts
abbrev pub lists_view : List (Vec (String Global) Global) → List (List (List ℕ))
lists_view lists = map (λ texts. map string_bytes texts.items) lists

abbrev pub rule_case_view : code.RuleCase → RuleCase
rule_case_view c = record {
  links = map link_view c.links.items;
  own = c.own;
  rules = lists_view c.rules.items;
  side = side_view c.side;
}

abbrev pub side_name : Side → List ℕ
side_name materials = codes "materials"
side_name products = codes "products"

-- {"materials":..,"products":..}, as the link of the step of this name
pub record IsLinkOf (step : List ℕ) (v : Json) (l : Link) : Type 0 where
  pub before : Json
  pub after : Json
  pub members : v ≡ object (member (codes "materials") before (member (codes "products") after no_members))
  pub name : step ≡ l.name
  pub named : IsName step
  pub materials : AreArtifacts before l.materials
  pub products : AreArtifacts after l.products

-- {"links":..,"rules":..,"side":..,"step":..}, where one of the links is of the step
pub record IsRuleCase (v : Json) (c : RuleCase) : Type 0 where
  pub links : Json
  pub rules : Json
  pub link : Link
  pub members : v ≡ object (member (codes "links") links (member (codes "rules") rules
      (member (codes "side") (text (side_name c.side)) (member (codes "step") (text link.name) no_members))))
  pub linked : IsObject IsLinkOf links c.links
  pub own : slice_get c.links c.own ≡ Some link
  pub listed : IsArray (IsArray IsText) rules c.rules

-- the bytes are the canonical text of the case
abbrev pub IsRuleText : List ℕ → RuleCase → Type 0
IsRuleText bytes c = (v : Json) × IsCanonical v bytes × IsRuleCase v c

-- place by place the words are those of the rules
abbrev pub AreRules : List (List (List ℕ)) → List ArtifactRule → Type 0
AreRules [] [] = Unit {0}
AreRules [] (r ∷ rs) = ⊥
AreRules (ws ∷ lists) [] = ⊥
AreRules (ws ∷ lists) (r ∷ rs) = AreWordsOf ws r × AreRules lists rs

-- the words of this place, from 0 on, are the first that are no rule's
pub record IsFirstNoRule (lists : List (List (List ℕ))) (place : ℕ) : Type 0 where
  pub before : List (List (List ℕ))
  pub words : List (List ℕ)
  pub behind : List (List (List ℕ))
  pub rules : List ArtifactRule
  pub parted : lists ≡ before ++ words ∷ behind
  pub counted : place ≡ length before
  pub read : AreRules before rules
  pub none : (r : ArtifactRule) → AreWordsOf words r → ⊥

-- all words are those of rules, and P holds of these and of the link that they are about
pub record AreJudged (c : RuleCase) (P : Link → List ArtifactRule → Type 0) : Type 0 where
  pub link : Link
  pub rules : List ArtifactRule
  pub own : slice_get c.links c.own ≡ Some link
  pub read : AreRules c.rules rules
  pub judged : P link rules
