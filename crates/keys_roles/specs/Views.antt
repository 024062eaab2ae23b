-- What the code's keys, rules and signatures stand for.
use Rattle.std.specs.Prelude.{ℕ, List, map, string_bytes}
use Rattle.hex.specs.Hex.{encode_lower}
use Rattle.keys_roles.specs.Plain as plain
use Rattle.keys_roles.specs.Verdicts as known
use Rattle.keys_roles.specs.declared.KeyId.{KeyId}
use Rattle.keys_roles.specs.declared.Key.{Key}
use Rattle.keys_roles.specs.declared.Key.TheVariants.{Lms, Hss}
use Rattle.keys_roles.specs.declared.KeyTable.{KeyTable}
use Rattle.keys_roles.specs.declared.RoleRule.{RoleRule}
use Rattle.keys_roles.specs.declared.Signature.{Signature}
use Rattle.keys_roles.specs.declared.Verdict.{Verdict}

abbrev pub id_text : KeyId → List ℕ
id_text id = encode_lower id.0

abbrev pub key_view : Key → plain.Key
key_view (Lms public) = plain.lms public
key_view (Hss public) = plain.hss public

abbrev pub rows_view : List (KeyId × Key) → plain.Table
rows_view rows = map (λ e. (id_text e.0, key_view e.1)) rows

abbrev pub table_view : KeyTable → plain.Table
table_view t = rows_view t.entries.items

abbrev pub ids_view : List KeyId → List (List ℕ)
ids_view ids = map id_text ids

abbrev pub rule_view : RoleRule → plain.RoleRule
rule_view r = record { keyids = ids_view r.keyids.items; threshold = r.threshold }

abbrev pub entry_view : Signature → plain.Signature
entry_view s = record { keyid = id_text s.keyid; sig = string_bytes s.sig }

abbrev pub entries_view : List Signature → List plain.Signature
entries_view ss = map entry_view ss

abbrev pub verdict_view : Verdict → known.Verdict
verdict_view v = record { pair = (v.place, key_view v.key); verifies = v.verifies }

abbrev pub verdict_views : List Verdict → List known.Verdict
verdict_views vs = map verdict_view vs
