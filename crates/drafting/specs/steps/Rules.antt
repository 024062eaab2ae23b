-- What the code's rules stand for, and what putting them in does to a signed part.
use Rattle.std.specs.Prelude.{ℕ, List, [], ◌∷◌, codes, map, string_bytes}
use Rattle.hex.specs.Hex.{encode_lower}
use Rattle.canonical_json.specs.Json.{Json, text, object, no_members, member}
use Rattle.keys_roles.specs.Plain.{Key}
use Rattle.keys_roles.specs.Views.{key_view}
use Rattle.drafting.specs.Members.{AlikeBut}
use Rattle.drafting.specs.Roots.{ChangesRoot, PutsTable, Rule as Said, Rules, root_names}
use Rattle.drafting.specs.declared.faults.TopRole.{TopRole}
use Rattle.drafting.specs.declared.rules.NamedKey.{NamedKey}
use Rattle.drafting.specs.declared.rules.Rule.{Rule}

abbrev pub keys_view : List NamedKey → List (Key × List ℕ)
keys_view keys = map (λ k. (key_view k.key, string_bytes k.name)) keys

abbrev pub rule_view : Rule → Said
rule_view r = record { threshold = r.threshold; keys = keys_view r.keys.now }

abbrev pub rules_view : List (TopRole × Rule) → Rules
rules_view rules = map (λ r. (r.0, rule_view r.1)) rules

-- {"public":..}
abbrev pub keyval : List ℕ → Json
keyval public = object (member (codes "public") (text (encode_lower public)) no_members)

-- {"keytype":"lms","keyval":{"public":..},"scheme":..}
abbrev pub keyed : List ℕ → List ℕ → Json
keyed public scheme = object (member (codes "keytype") (text (codes "lms")) (member (codes "keyval") (keyval public) (member (codes "scheme") (text scheme) no_members)))

-- such a table comes in, and nothing else changes
pub record PutsOne (name : List ℕ) (rows : List (List ℕ × Json)) (roles before after : Json) : Type 0 where
  pub table : PutsTable name rows roles before after
  pub others : AlikeBut (name ∷ []) before after

-- the rules come in, and nothing else changes
pub record PutsRules (rules : Rules) (before after : Json) : Type 0 where
  pub changes : ChangesRoot rules before after
  pub others : AlikeBut root_names before after
