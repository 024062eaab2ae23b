-- Drafts of root metadata (TUF 1.0, section 4.3).
use Rattle.std.specs.Prelude.{◌≡◌, ◌⊎◌, ℕ, pos, true, List, [], ◌∷◌, codes, map, flat_map, Option}
use Rattle.canonical_json.specs.Json.{Json, boolean, integer, text, array, object, Items, no_items, item, no_members, member, HasMember}
use Rattle.canonical_json.specs.View.{items_of}
use Rattle.keys_roles.specs.Plain.{Key}
use Rattle.keys_roles.specs.Keys.{id_of, key_object}
use Rattle.document_parts.specs.declared.documents.Kind.TheVariants as kinds
use Rattle.drafting.specs.Members.{HasNone, IsObjectAt, Keeps, PutsAll}
use Rattle.drafting.specs.Drafts.{File, Drafts, IsBase}
use Rattle.drafting.specs.Targets.{IsThere}
use Rattle.drafting.specs.declared.terms.Terms.{Terms}
use Rattle.drafting.specs.declared.faults.TopRole.{TopRole}
use Rattle.drafting.specs.declared.faults.TopRole.TheVariants as top
use Rattle.drafting.specs.declared.faults.DraftFault.{DraftFault}
use Rattle.drafting.specs.declared.faults.DraftFault.TheVariants.{Missing}

-- how many of which keys must sign, each key with a name of it
pub record Rule : Type 0 where
  pub threshold : ℕ
  pub keys : List (Key × List ℕ)

abbrev pub Rules : Type 0
Rules = List (TopRole × Rule)

abbrev pub role_name : TopRole → List ℕ
role_name top.Root = codes "root"
role_name top.Targets = codes "targets"
role_name top.Snapshot = codes "snapshot"
role_name top.Timestamp = codes "timestamp"

-- the ids of keys, as texts
abbrev pub ids_of : List (Key × List ℕ) → List Json
ids_of keys = map (λ k. text (id_of k.0)) keys

-- {"keyids":[..],"threshold":..}
abbrev pub rule_object : Rule → Json
rule_object r = object (member (codes "keyids") (array (items_of (ids_of r.keys))) (member (codes "threshold") (integer (pos r.threshold)) no_members))

-- the rules by their roles
abbrev pub rule_rows : Rules → List (List ℕ × Json)
rule_rows rules = map (λ r. (role_name r.0, rule_object r.1)) rules

-- the keys by their ids, and the names by the ids of their keys
abbrev pub keys_of : List (Key × List ℕ) → List (List ℕ × Json)
keys_of keys = map (λ k. (id_of k.0, key_object k.0)) keys

abbrev pub names_of : List (Key × List ℕ) → List (List ℕ × Json)
names_of keys = map (λ k. (id_of k.0, text k.1)) keys

abbrev pub key_rows : Rules → List (List ℕ × Json)
key_rows rules = flat_map (λ r. keys_of r.1.keys) rules

abbrev pub name_rows : Rules → List (List ℕ × Json)
name_rows rules = flat_map (λ r. names_of r.1.keys) rules

-- the text stands in the list
abbrev pub IsItem : List ℕ → Items → Type 0
IsItem t no_items = ⊥
IsItem t (item v vs) = (v ≡ text t) ⊎ IsItem t vs

-- the value is a list that has the text
abbrev pub IsListed : Json → List ℕ → Type 0
IsListed v t = (vs : Items) × (v ≡ array vs) × IsItem t vs

-- a rule has the id
abbrev pub HasId : Json → List ℕ → Type 0
HasId rule id = (ids : Json) × HasMember rule (codes "keyids") ids × IsListed ids id

-- some rule of the roles has the id
abbrev pub IsNamed : Json → List ℕ → Type 0
IsNamed roles id = (role : List ℕ) × (rule : Json) × HasMember roles role rule × HasId rule id

-- of what was there and of what comes in, the last of an id deciding, what is of ids that a rule has
pub record IsTable (rows : List (List ℕ × Json)) (roles old new : Json) : Type 0 where
  pub all : Json
  pub puts : PutsAll rows old all
  pub keeps : Keeps (IsNamed roles) all new

-- the member of this name becomes such a table
pub record PutsTable (name : List ℕ) (rows : List (List ℕ × Json)) (roles before after : Json) : Type 0 where
  pub old : Json
  pub new : Json
  pub was : IsObjectAt before name old
  pub has : HasMember after name new
  pub table : IsTable rows roles old new

-- each role that is named has the rule that is said of it last, the others keep theirs, and each of the four has one; keys and their names are those that the
-- rules have
pub record ChangesRoot (rules : Rules) (before after : Json) : Type 0 where
  pub old : Json
  pub roles : Json
  pub was : IsObjectAt before (codes "roles") old
  pub has : HasMember after (codes "roles") roles
  pub puts : PutsAll (rule_rows rules) old roles
  pub all : (role : TopRole) → IsThere roles (role_name role)
  pub keys : PutsTable (codes "keys") (key_rows rules) roles before after
  pub names : PutsTable (codes "names") (name_rows rules) roles before after
  pub consistent : HasMember after (codes "consistent_snapshot") (boolean true)

-- the names of the members that a draft of a root changes
abbrev pub root_names : List (List ℕ)
root_names = codes "roles" ∷ codes "keys" ∷ codes "names" ∷ codes "consistent_snapshot" ∷ []

-- the signed part of a draft with these rules
pub record DraftsRoot (held begun : Option File) (terms : Terms) (rules : Rules) (part : Json) : Type 0 where
  pub before : Json
  pub drafts : Drafts kinds.Root held begun terms root_names before part
  pub changes : ChangesRoot rules before part

-- no rule was there for the role, and none is given
pub record LacksRule (held begun : Option File) (rules : Rules) (role : TopRole) : Type 0 where
  pub before : Json
  pub old : Json
  pub roles : Json
  pub base : IsBase kinds.Root held begun before
  pub was : IsObjectAt before (codes "roles") old
  pub puts : PutsAll (rule_rows rules) old roles
  pub none : HasNone roles (role_name role)

abbrev pub IsRuleless : Option File → Option File → Rules → DraftFault → Type 0
IsRuleless held begun rules (Missing role) = LacksRule held begun rules role
IsRuleless held begun rules fault = ⊥
