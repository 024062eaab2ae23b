-- What the signed part of each kind of document is (TUF 1.0, sections 4.3 to 4.6; in-toto 1.0, sections 4.3 and 4.4; this
-- project's profile). Members that are not named here may stand beside those that are, except where `HasJust` or an equation
-- says otherwise.
use Rattle.std.specs.Prelude.{◌≡◌, ◌≢◌, ℕ, ◌<◌, ◌≤◌, List, [], ◌∷◌, ◌++◌, length, codes, true, Option, Some, None, map, Contains, ◌⊎◌}
use Rattle.std.specs.List.{AllByRecursion}
use Rattle.canonical_json.specs.Json.{Json, boolean, array, no_items, HasMember, object, Members}
use Rattle.path_patterns.specs.Grammar.{IsTargetPath, IsName, IsPattern, IsHashPrefix}
use Rattle.keys_roles.specs.Plain.{Table, RoleRule, Signature}
use Rattle.keys_roles.specs.Rules.{AreDistinct}
use Rattle.document_parts.specs.Documents.{Profile, first_profile, second_profile, Root, Timestamp, Snapshot, MetaFile, LayoutReference, Listing, Scope, patterns, prefixes, Delegation, Delegations, Targets, Step, Layout}
use Rattle.document_parts.specs.Links.{Artifacts, Link}
use Rattle.document_parts.specs.Members.{Has, MayHave, HasJust, IsArray, IsObject, IsText}
use Rattle.document_parts.specs.Parts.{IsVersion, IsLength, HasExpires, IsSpecVersion, IsSpecVersionOf, IsHashes, IsTable, HasRule, IsMetaFile}
use Rattle.document_parts.specs.Rules.{ArtifactRule, AreWordsOf}

-- the names of the four roles that delegations can't give
abbrev pub top_roles : List (List ℕ)
top_roles = codes "root" ∷ codes "snapshot" ∷ codes "targets" ∷ codes "timestamp" ∷ []

-- the members that timestamp, snapshot and targets have in common
abbrev pub HasHead : Json → ℕ → ℕ → Type 0
HasHead signed version expires =
    Has signed (codes "spec_version") IsSpecVersion
    × Has signed (codes "version") (λ x. IsVersion x version)
    × HasExpires signed expires

-- the same members of a root, whose `spec_version` tells its profile
abbrev pub HasRootHead : Json → Profile → ℕ → ℕ → Type 0
HasRootHead signed profile version expires =
    Has signed (codes "spec_version") (IsSpecVersionOf profile)
    × Has signed (codes "version") (λ x. IsVersion x version)
    × HasExpires signed expires

-- the rule of a role over a table of keys
abbrev pub HasRole : Json → List ℕ → Table → RoleRule → Type 0
HasRole v role keys rule = Has v role (λ x. HasRule (codes "keyids") x keys rule)

-- the rules of the four roles of a root
pub record Roles : Type 0 where
  pub root : RoleRule
  pub snapshot : RoleRule
  pub targets : RoleRule
  pub timestamp : RoleRule

-- the four roles, and no other, over a table of keys
pub record AreRoles (v : Json) (keys : Table) (r : Roles) : Type 0 where
  pub just : HasJust v top_roles
  pub root : HasRole v (codes "root") keys r.root
  pub snapshot : HasRole v (codes "snapshot") keys r.snapshot
  pub targets : HasRole v (codes "targets") keys r.targets
  pub timestamp : HasRole v (codes "timestamp") keys r.timestamp

abbrev pub roles_of : Root → Roles
roles_of r = record { root = r.root; snapshot = r.snapshot; targets = r.targets; timestamp = r.timestamp }

abbrev pub IsConsistent : Json → Type 0
IsConsistent signed = Has signed (codes "consistent_snapshot") (λ x. x ≡ boolean true)

-- a text of a grammar
abbrev pub IsTextOf : (List ℕ → Type 0) → Json → List ℕ → Type 0
IsTextOf Grammar v t = IsText v t × Grammar t

-- the most patterns, or prefixes, of a delegation, the most patterns of a root, and the most links of a target
abbrev pub max_texts : ℕ
max_texts = 64

-- a list of such texts, neither empty nor too long
abbrev pub AreTextsOf : (List ℕ → Type 0) → Json → List (List ℕ) → Type 0
AreTextsOf Grammar v ts = IsArray (IsTextOf Grammar) v ts × (0 < length ts) × (length ts ≤ max_texts)

-- the patterns of the paths that need a layout: a root of the second profile may have them, and in one of the first the member
-- is unknown, and means nothing
abbrev pub HasRequired : Json → Profile → Option (List (List ℕ)) → Type 0
HasRequired signed first_profile o = o ≡ None
HasRequired signed second_profile o = MayHave signed (codes "layout_required") (AreTextsOf IsPattern) o

pub record IsRoot (signed : Json) (r : Root) : Type 0 where
  pub head : HasRootHead signed r.profile r.version r.expires
  pub consistent : IsConsistent signed
  pub keys : Has signed (codes "keys") (λ x. IsTable x r.keys)
  pub roles : Has signed (codes "roles") (λ x. AreRoles x r.keys (roles_of r))
  pub required : HasRequired signed r.profile r.required

-- {"snapshot.json":..}
abbrev pub IsTimestampMeta : Json → MetaFile → Type 0
IsTimestampMeta v m = HasJust v (codes "snapshot.json" ∷ []) × Has v (codes "snapshot.json") (λ x. IsMetaFile x m)

pub record IsTimestamp (signed : Json) (t : Timestamp) : Type 0 where
  pub head : HasHead signed t.version t.expires
  pub meta : Has signed (codes "meta") (λ x. IsTimestampMeta x t.snapshot)

-- a role's file, `ROLE.json`, with what is said of it
abbrev pub IsMetaRow : List ℕ → Json → List ℕ × MetaFile → Type 0
IsMetaRow name v e = (name ≡ e.0 ++ codes ".json") × IsName e.0 × IsMetaFile v e.1

-- the names of the roles whose documents a snapshot lists: all but three
abbrev pub IsListable : List ℕ → Type 0
IsListable role = (role ≢ codes "root") × (role ≢ codes "timestamp") × (role ≢ codes "snapshot")

-- at most 128 roles, with `targets`
pub record AreMetaRows (v : Json) (rows : List (List ℕ × MetaFile)) : Type 0 where
  pub each : IsObject IsMetaRow v rows
  pub most : length rows ≤ 128
  pub targets : Contains (map (λ e. e.0) rows) (codes "targets")
  pub listable : AllByRecursion (λ e. IsListable e.0) rows

pub record IsSnapshot (signed : Json) (s : Snapshot) : Type 0 where
  pub head : HasHead signed s.version s.expires
  pub meta : Has signed (codes "meta") (λ x. AreMetaRows x s.meta)

abbrev pub NoMember : Json → List ℕ → Type 0
NoMember v name = (x : Json) → HasMember v name x → ⊥

-- the members of what refers a target to a layout
abbrev pub reference_members : List (List ℕ)
reference_members = codes "keyids" ∷ codes "keys" ∷ codes "links" ∷ codes "path" ∷ codes "product" ∷ codes "step" ∷ codes "threshold" ∷ []

-- what refers a target to a layout: these members and no other, the owners' rule over a table of its own, and links that are
-- distinct and none of them the layout
pub record IsLayoutReference (v : Json) (l : LayoutReference) : Type 0 where
  pub just : HasJust v reference_members
  pub keys : Has v (codes "keys") (λ x. IsTable x l.keys)
  pub owners : HasRule (codes "keyids") v l.keys l.owners
  pub links : Has v (codes "links") (λ x. AreTextsOf IsTargetPath x l.links)
  pub path : Has v (codes "path") (λ x. IsTextOf IsTargetPath x l.path)
  pub product : Has v (codes "product") (λ x. IsTextOf IsTargetPath x l.product)
  pub step : Has v (codes "step") (λ x. IsTextOf IsName x l.step)
  pub distinct : AreDistinct (l.path ∷ l.links)

-- an object, which may refer to a layout
abbrev pub IsCustom : Json → Option LayoutReference → Type 0
IsCustom v o = (ms : Members) × (v ≡ object ms) × MayHave v (codes "layout") IsLayoutReference o

-- `custom` is absent, or an object; there a target may refer to a layout
abbrev pub HasLayoutReference : Json → Option LayoutReference → Type 0
HasLayoutReference v None = NoMember v (codes "custom") ⊎ Has v (codes "custom") (λ x. IsCustom x None)
HasLayoutReference v (Some l) = Has v (codes "custom") (λ x. IsCustom x (Some l))

abbrev pub IsListing : List ℕ → Json → Listing → Type 0
IsListing path v l =
    (path ≡ l.path) × IsTargetPath path
    × Has v (codes "length") (λ x. IsLength x l.len)
    × Has v (codes "hashes") (λ x. IsHashes x l.digest)
    × HasLayoutReference v l.layout

-- what a delegation covers: just one of the two members
abbrev pub HasScope : Json → Scope → Type 0
HasScope v (patterns ps) = Has v (codes "paths") (λ x. AreTextsOf IsPattern x ps) × NoMember v (codes "path_hash_prefixes")
HasScope v (prefixes ps) = Has v (codes "path_hash_prefixes") (λ x. AreTextsOf IsHashPrefix x ps) × NoMember v (codes "paths")

-- the names of the roles that delegations can give: all but four
abbrev pub IsDelegable : List ℕ → Type 0
IsDelegable role = IsName role × IsListable role × (role ≢ codes "targets")

-- a delegation, over a table of keys
abbrev pub IsDelegation : Table → Json → Delegation → Type 0
IsDelegation keys v d =
    Has v (codes "name") (λ x. IsTextOf IsDelegable x d.name)
    × HasRule (codes "keyids") v keys d.rule
    × Has v (codes "terminating") (λ x. x ≡ boolean d.terminating)
    × HasScope v d.scope

-- the most delegations of one list
abbrev pub max_delegations : ℕ
max_delegations = 64

-- delegations in their order, no role twice
abbrev pub AreDelegations : Table → Json → List Delegation → Type 0
AreDelegations keys v ds =
    IsArray (IsDelegation keys) v ds × (length ds ≤ max_delegations) × AreDistinct (map (λ d. d.name) ds)

-- {"keys":..,"roles":..}
abbrev pub HasDelegations : Json → Delegations → Type 0
HasDelegations v d =
    Has v (codes "keys") (λ x. IsTable x d.keys) × Has v (codes "roles") (λ x. AreDelegations d.keys x d.roles)

pub record IsTargets (signed : Json) (t : Targets) : Type 0 where
  pub head : HasHead signed t.version t.expires
  pub targets : Has signed (codes "targets") (λ x. IsObject IsListing x t.targets)
  pub delegations : MayHave signed (codes "delegations") HasDelegations t.delegations

-- a list of texts, which are the words of the rule
abbrev pub IsListedRule : Json → ArtifactRule → Type 0
IsListedRule v r = (words : List (List ℕ)) × IsArray IsText v words × AreWordsOf words r

-- the most rules of one list
abbrev pub max_rules : ℕ
max_rules = 64

-- rules in their order
abbrev pub IsRuleList : Json → List ArtifactRule → Type 0
IsRuleList v rs = IsArray IsListedRule v rs × (length rs ≤ max_rules)

-- a step, over the keys of its layout
abbrev pub IsStep : Table → Json → Step → Type 0
IsStep keys v s =
    Has v (codes "name") (λ x. IsTextOf IsName x s.name)
    × HasRule (codes "pubkeys") v keys s.rule
    × Has v (codes "expected_materials") (λ x. IsRuleList x s.materials)
    × Has v (codes "expected_products") (λ x. IsRuleList x s.products)

-- the most steps of a layout
abbrev pub max_steps : ℕ
max_steps = 16

-- steps in their order, no name twice
abbrev pub AreSteps : Table → Json → List Step → Type 0
AreSteps keys v ss =
    IsArray (IsStep keys) v ss × (0 < length ss) × (length ss ≤ max_steps) × AreDistinct (map (λ s. s.name) ss)

abbrev pub HasNoInspections : Json → Type 0
HasNoInspections signed = Has signed (codes "inspect") (λ x. x ≡ array no_items)

pub record IsLayout (signed : Json) (l : Layout) : Type 0 where
  pub expires : HasExpires signed l.expires
  pub inspect : HasNoInspections signed
  pub keys : Has signed (codes "keys") (λ x. IsTable x l.keys)
  pub steps : Has signed (codes "steps") (λ x. AreSteps l.keys x l.steps)

-- a path with the digest of the artifact
abbrev pub IsArtifact : List ℕ → Json → List ℕ × List ℕ → Type 0
IsArtifact path v a = (path ≡ a.0) × IsTargetPath path × IsHashes v a.1

abbrev pub AreArtifacts : Json → Artifacts → Type 0
AreArtifacts v artifacts = IsObject IsArtifact v artifacts

-- a link, which has one signature
pub record IsLink (entries : List Signature) (signed : Json) (l : Link) : Type 0 where
  pub one : length entries ≡ 1
  pub name : Has signed (codes "name") (λ x. IsTextOf IsName x l.name)
  pub materials : Has signed (codes "materials") (λ x. AreArtifacts x l.materials)
  pub products : Has signed (codes "products") (λ x. AreArtifacts x l.products)
