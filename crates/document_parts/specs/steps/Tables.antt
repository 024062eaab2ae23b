-- Tables and rules as a file spells them: their ids are texts of any form.
use Rattle.std.specs.Prelude.{ℕ, List, codes, map, String, string_bytes}
use Rattle.std.specs.declared.alloc.Global.{Global}
use Rattle.keys_roles.specs.Plain as plain
use Rattle.keys_roles.specs.Views.{key_view}
use Rattle.keys_roles.specs.declared.Key.{Key}
use Rattle.canonical_json.specs.Json.{Json, text, object, no_members, member}
use Rattle.document_parts.specs.Bodies as bodies
use Rattle.document_parts.specs.Members.{Has}
use Rattle.document_parts.specs.Parts.{IsTable}
use Rattle.document_parts.specs.declared.keys.SpelledTable.{SpelledTable}
use Rattle.document_parts.specs.declared.keys.SpelledRule.{SpelledRule}

-- {"public":..} with this text
abbrev pub keyval_object : List ℕ → Json
keyval_object digits = object (member (codes "public") (text digits) no_members)

abbrev pub texts_view : List (String Global) → List (List ℕ)
texts_view ts = map string_bytes ts

abbrev pub spelled_rows : List (String Global × Key) → plain.Table
spelled_rows rows = map (λ e. (string_bytes e.0, key_view e.1)) rows

abbrev pub spelled_table : SpelledTable → plain.Table
spelled_table t = spelled_rows t.rows.items

abbrev pub spelled_rule : SpelledRule → plain.RoleRule
spelled_rule r = record { keyids = texts_view r.ids.items; threshold = r.threshold }

-- the object has these keys, and the rules of the four roles over them
abbrev pub HasKeyed : Json → plain.Table × bodies.Roles → Type 0
HasKeyed v k = Has v (codes "keys") (λ x. IsTable x k.0) × Has v (codes "roles") (λ x. bodies.AreRoles x k.0 k.1)
