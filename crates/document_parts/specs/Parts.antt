-- The parts that documents are made of (TUF 1.0, section 4.2; this project's profile).
use Rattle.std.specs.Prelude.{◌≡◌, ℕ, ◌<◌, ◌≤◌, ◌%◌, List, ◌++◌, length, codes, IsTrue, Contains, map, filter_map, option_map, Option}
use Rattle.limits.specs.Limits.{most_signatures}
use Rattle.std.specs.List.{AllByRecursion, list_all}
use Rattle.hex.specs.Hex.{encode_lower}
use Rattle.path_patterns.specs.Bytes.{is_digit, is_hex}
use Rattle.path_patterns.specs.Grammar.{IsHex}
use Rattle.path_patterns.specs.Names.{IsDigest}
use Rattle.canonical_json.specs.Json.{Json, text, object, no_members, member}
use Rattle.keys_roles.specs.Plain.{Key, Table, RoleRule, Signature, look_up}
use Rattle.keys_roles.specs.Keys.{key_object, public_bytes, public_len, id_of, top_key}
use Rattle.keys_roles.specs.Rules.{AreDistinct}
use Rattle.document_parts.specs.Documents.{MetaFile, Profile, first_profile, second_profile}
use Rattle.document_parts.specs.Members.{Has, MayHave, IsArray, IsObject, IsText, IsNumber}
use Rattle.document_parts.specs.Dates.{IsDateTime}

abbrev pub last_number : ℕ
last_number = 4294967295

abbrev pub IsVersion : Json → ℕ → Type 0
IsVersion = IsNumber 1 last_number

abbrev pub IsLength : Json → ℕ → Type 0
IsLength = IsNumber 0 last_number

abbrev pub HasExpires : Json → ℕ → Type 0
HasExpires v seconds = Has v (codes "expires") (λ x. (bytes : List ℕ) × IsText x bytes × IsDateTime bytes seconds)

-- `1.0.` and one to three digits
abbrev pub IsSpecVersion : Json → Type 0
IsSpecVersion v = (digits : List ℕ) × IsText v (codes "1.0." ++ digits)
    × (0 < length digits) × (length digits ≤ 3) × IsTrue (list_all is_digit digits)

-- the same of a root, which has `+p2` after it where the root is of the second profile
abbrev pub IsSpecVersionOf : Profile → Json → Type 0
IsSpecVersionOf first_profile v = IsSpecVersion v
IsSpecVersionOf second_profile v = (digits : List ℕ) × IsText v (codes "1.0." ++ (digits ++ codes "+p2"))
    × (0 < length digits) × (length digits ≤ 3) × IsTrue (list_all is_digit digits)

-- {"sha256":..}
abbrev pub IsHashes : Json → List ℕ → Type 0
IsHashes v digest = IsDigest digest × (v ≡ object (member (codes "sha256") (text (encode_lower digest)) no_members))

-- so many bytes
abbrev pub AreBytes : ℕ → List ℕ → Type 0
AreBytes n bytes = (length bytes ≡ n) × AllByRecursion (λ b. b < 256) bytes

abbrev pub IsKey : Json → Key → Type 0
IsKey v k = (v ≡ key_object k) × AreBytes (public_len k) (public_bytes k)

-- names with keys, whatever the names
abbrev pub IsRow : List ℕ → Json → List ℕ × Key → Type 0
IsRow name x e = (e.0 ≡ name) × IsKey x e.1

abbrev pub IsTable : Json → Table → Type 0
IsTable v table = IsObject IsRow v table × (length table ≤ 256)

-- each name is the id of its key
abbrev pub NamesAreIds : Table → Type 0
NamesAreIds table = AllByRecursion (λ e. e.0 ≡ id_of e.1) table

-- each name is 64 hex digits
abbrev pub NamesAreHex : Table → Type 0
NamesAreHex table = AllByRecursion (λ e. IsHex 64 e.0) table

-- the top key of the key that stands first beside the id
abbrev pub top_at : Table → List ℕ → Option (List ℕ)
top_at table id = option_map top_key (look_up table id)

-- the top keys of the keys that the ids name, in their order
abbrev pub tops_of : Table → List (List ℕ) → List (List ℕ)
tops_of table ids = filter_map (top_at table) ids

-- a rule over a table of keys: no two ids of it name keys with one top key
pub record IsRuleOver (table : Table) (rule : RoleRule) : Type 0 where
  pub some : 0 < length rule.keyids
  pub most : length rule.keyids ≤ 16
  pub distinct : AreDistinct rule.keyids
  pub known : AllByRecursion (Contains (map (λ e. e.0) table)) rule.keyids
  pub threshold : rule.threshold ≤ length rule.keyids
  pub tops : AreDistinct (tops_of table rule.keyids)

-- the object has a rule, its ids under this name
abbrev pub HasRule : List ℕ → Json → Table → RoleRule → Type 0
HasRule ids v table rule =
    Has v ids (λ x. IsArray IsText x rule.keyids)
    × Has v (codes "threshold") (λ x. IsNumber 1 16 x rule.threshold)
    × IsRuleOver table rule

abbrev pub IsMetaFile : Json → MetaFile → Type 0
IsMetaFile v e =
    Has v (codes "version") (λ x. IsVersion x e.version)
    × MayHave v (codes "length") IsLength e.len
    × MayHave v (codes "hashes") IsHashes e.digest

-- the most signatures of a file
-- the longest signature, in hex digits
abbrev pub max_signature_digits : ℕ
max_signature_digits = 149976

-- {"keyid":..,"sig":..}
abbrev pub signature_object : List ℕ → List ℕ → Json
signature_object id digits = object (member (codes "keyid") (text id) (member (codes "sig") (text digits) no_members))

abbrev pub AreSignatureDigits : List ℕ → Type 0
AreSignatureDigits digits = (length digits ≤ max_signature_digits) × (length digits % 2 ≡ 0) × IsTrue (list_all is_hex digits)

abbrev pub IsEntry : Json → Signature → Type 0
IsEntry v e = (v ≡ signature_object e.keyid e.sig) × IsHex 64 e.keyid × AreSignatureDigits e.sig

abbrev pub ids_of : List Signature → List (List ℕ)
ids_of entries = map (λ e. e.keyid) entries

-- no more than the most, no id twice
abbrev pub AreSignatures : Json → List Signature → Type 0
AreSignatures v entries = IsArray IsEntry v entries × (length entries ≤ most_signatures) × AreDistinct (ids_of entries)

-- {"signatures":[..],"signed":{..}}, where `signed` has a text `_type`
pub record IsEnvelope (v : Json) (entries : List Signature) (signed : Json) (type_name : List ℕ) : Type 0 where
  pub list : Json
  pub members : v ≡ object (member (codes "signatures") list (member (codes "signed") signed no_members))
  pub signatures : AreSignatures list entries
  pub typed : Has signed (codes "_type") (λ x. IsText x type_name)
