-- Drafts of layouts (in-toto 1.0, section 4.3).
use Rattle.std.specs.Prelude.{◌≡◌, ℕ, pos, List, [], ◌∷◌, ◌++◌, codes, map, flat_map, Option, Some, None}
use Rattle.canonical_json.specs.Json.{Json, integer, text, array, object, no_items, no_members, member}
use Rattle.canonical_json.specs.View.{items_of}
use Rattle.document_parts.specs.Dates.{IsDateTime}
use Rattle.metadata.specs.Shape.{kind_name}
use Rattle.document_parts.specs.declared.documents.Kind.TheVariants as kinds
use Rattle.drafting.specs.Drafts.{File, HasPart}
use Rattle.drafting.specs.Members.{PutsAll}
use Rattle.drafting.specs.Roots.{Rule, ids_of, keys_of, names_of}
use Rattle.drafting.specs.declared.terms.Terms.{Terms}
use Rattle.chain_drafting.specs.Within.{typed_part}

-- artifact rules, each as its words
abbrev pub RuleWords : Type 0
RuleWords = List (List (List ℕ))

-- what is said of a step: its name, its rule, what it makes, and the rules that stand in the place of the usual ones
pub record Step : Type 0 where
  pub name : List ℕ
  pub rule : Rule
  pub products : List (List ℕ)
  pub material_rules : Option RuleWords
  pub product_rules : Option RuleWords

-- ---- the usual rules

-- DISALLOW *
abbrev pub nothing_more : List (List ℕ)
nothing_more = codes "DISALLOW" ∷ codes "*" ∷ []

-- MATCH * WITH PRODUCTS FROM step
abbrev pub all_of : List ℕ → List (List ℕ)
all_of step = codes "MATCH" ∷ codes "*" ∷ codes "WITH" ∷ codes "PRODUCTS" ∷ codes "FROM" ∷ step ∷ []

-- what the step before it left, as it left it
abbrev pub left_by : Option (List ℕ) → RuleWords
left_by None = []
left_by (Some step) = all_of step ∷ []

-- CREATE and MODIFY for each product
abbrev pub made : List (List ℕ) → RuleWords
made [] = []
made (p ∷ ps) = (codes "CREATE" ∷ p ∷ []) ∷ (codes "MODIFY" ∷ p ∷ []) ∷ made ps

-- a step may use what the step before it left
abbrev pub usual_materials : Option (List ℕ) → RuleWords
usual_materials before = left_by before ++ nothing_more ∷ []

-- and leaves that and what it makes
abbrev pub usual_products : Option (List ℕ) → List (List ℕ) → RuleWords
usual_products before products = left_by before ++ (made products ++ nothing_more ∷ [])

abbrev pub said_or : Option RuleWords → RuleWords → RuleWords
said_or None usual = usual
said_or (Some said) usual = said

-- ---- the steps as values

abbrev pub texts : List (List ℕ) → Json
texts words = array (items_of (map (λ w. text w) words))

abbrev pub rule_list : RuleWords → Json
rule_list rules = array (items_of (map texts rules))

-- the step after the one of this name, or the first one
abbrev pub step_object : Option (List ℕ) → Step → Json
step_object before s =
    object (member (codes "expected_materials") (rule_list (said_or s.material_rules (usual_materials before)))
    (member (codes "expected_products") (rule_list (said_or s.product_rules (usual_products before s.products)))
    (member (codes "name") (text s.name)
    (member (codes "pubkeys") (array (items_of (ids_of s.rule.keys)))
    (member (codes "threshold") (integer (pos s.rule.threshold)) no_members)))))

abbrev pub step_objects : Option (List ℕ) → List Step → List Json
step_objects before [] = []
step_objects before (s ∷ ss) = step_object before s ∷ step_objects (Some s.name) ss

-- the steps of a layout, in their order
abbrev pub chain : List Step → Json
chain steps = array (items_of (step_objects None steps))

-- the keys of the steps by their ids, and their names
abbrev pub step_keys : List Step → List (List ℕ × Json)
step_keys steps = flat_map (λ s. keys_of s.rule.keys) steps

abbrev pub step_names : List Step → List (List ℕ × Json)
step_names steps = flat_map (λ s. names_of s.rule.keys) steps

-- ---- the signed part

-- what a draft goes on from: a layout, or nothing
abbrev pub IsLayoutBase : Option File → Json → Type 0
IsLayoutBase None part = part ≡ typed_part (kind_name kinds.Layout)
IsLayoutBase (Some begun) part = HasPart kinds.Layout begun part

-- the members that a draft puts
abbrev pub layout_rows : Json → Json → List Step → List ℕ → Terms → List (List ℕ × Json)
layout_rows keys names steps expires terms =
    (codes "keys", keys) ∷ (codes "names", names) ∷ (codes "steps", chain steps) ∷ (codes "inspect", array no_items)
    ∷ (codes "expires", text expires) ∷ (codes "term", integer (pos terms.seconds)) ∷ []

-- a layout of these steps, of just the keys that their rules name, which expires as the terms say; of what it goes on from it keeps
-- every member that it does not put
pub record DraftsLayout (begun : Option File) (terms : Terms) (steps : List Step) (part : Json) : Type 0 where
  pub before : Json
  pub keys : Json
  pub names : Json
  pub expires : List ℕ
  pub base : IsLayoutBase begun before
  pub keyed : PutsAll (step_keys steps) (object no_members) keys
  pub named : PutsAll (step_names steps) (object no_members) names
  pub date : IsDateTime expires terms.expires
  pub puts : PutsAll (layout_rows keys names steps expires terms) before part
