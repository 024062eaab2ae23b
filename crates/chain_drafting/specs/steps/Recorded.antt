-- What of a draft is put by one function.
use Rattle.std.specs.Prelude.{◌≡◌, ℕ, Option, List, [], ◌∷◌, codes}
use Rattle.canonical_json.specs.Json.{Json, text, array, object, no_items, no_members, member}
use Rattle.canonical_json.specs.View.{items_of}
use Rattle.drafting.specs.Members.{HasNone, IsObjectAt, Puts, PutsAll}
use Rattle.drafting.specs.Roots.{ids_of}
use Rattle.chain_drafting.specs.Layouts.{Step, chain, rule_list, said_or, step_keys, step_names, texts, usual_materials, usual_products}
use Rattle.chain_drafting.specs.References.{Said}
use Rattle.chain_drafting.specs.Links.{IsLinkPart}

-- a table of these rows, from nothing, comes in
abbrev pub PutsTable : List ℕ → List (List ℕ × Json) → Json → Json → Type 0
PutsTable name rows before after = (table : Json) × PutsAll rows (object no_members) table × Puts name table before after

-- a file of a signed part that is a link's
abbrev pub IsLinkFile : Json → Type 0
IsLinkFile v = (list part : Json) × (v ≡ object (member (codes "signatures") list (member (codes "signed") part no_members))) × IsLinkPart part

-- the rules of a step as members
abbrev pub rule_rows : Option (List ℕ) → Step → List (List ℕ × Json)
rule_rows before s =
    (codes "expected_materials", rule_list (said_or s.material_rules (usual_materials before)))
    ∷ (codes "expected_products", rule_list (said_or s.product_rules (usual_products before s.products))) ∷ []

-- what the steps say comes in, and then further rows
pub record PutsSteps (steps : List Step) (before after : Json) : Type 0 where
  pub keys : Json
  pub names : Json
  pub keyed : PutsAll (step_keys steps) (object no_members) keys
  pub named : PutsAll (step_names steps) (object no_members) names
  pub more : (rows : List (List ℕ × Json)) (end : Json) → PutsAll rows after end
      → PutsAll ((codes "keys", keys) ∷ (codes "names", names) ∷ (codes "steps", chain steps) ∷ (codes "inspect", array no_items) ∷ rows) before end

-- the members of a reference
abbrev pub owner_rows : Json → Said → List (List ℕ × Json)
owner_rows keys s = (codes "keyids", array (items_of (ids_of s.owners.keys))) ∷ (codes "keys", keys) ∷ []

abbrev pub place_rows : Said → List (List ℕ × Json)
place_rows s = (codes "links", texts s.links) ∷ (codes "path", text s.path) ∷ (codes "product", text s.product) ∷ (codes "step", text s.step) ∷ []

-- the target is not listed
abbrev pub IsUnreferred : Json → List ℕ → Type 0
IsUnreferred before target = (old : Json) × IsObjectAt before (codes "targets") old × HasNone old target
