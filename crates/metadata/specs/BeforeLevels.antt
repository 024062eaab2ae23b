-- Which document a file was before signatures of several levels: a key was one of `lms-sha256`, a rule might name one key by two
-- ids, and a signature had at most 18,648 hex digits. Both profiles stood before. What stands here is `Parts`, `Bodies` and `Shape`
-- with these three changed; a law says that each such document is one still.
use Rattle.std.specs.Prelude.{◌≡◌, ℕ, ◌<◌, ◌≤◌, ◌%◌, List, ◌∷◌, length, codes, IsTrue, Contains, map, Option, Some, None, ◌⊎◌}
use Rattle.limits.specs.Limits.{most_signatures}
use Rattle.std.specs.List.{AllByRecursion, list_all}
use Rattle.path_patterns.specs.Bytes.{is_hex}
use Rattle.path_patterns.specs.Grammar.{IsHex, IsTargetPath, IsName}
use Rattle.canonical_json.specs.Json.{Json, boolean, object, Members, no_members, member}
use Rattle.canonical_json.specs.Spelling.{spelling}
use Rattle.keys_roles.specs.Plain.{Key, lms, Table, RoleRule, Signature}
use Rattle.keys_roles.specs.Keys.{key_object}
use Rattle.keys_roles.specs.Rules.{AreDistinct}
use Rattle.document_parts.specs.Documents.{Root, LayoutReference, Listing, Delegation, Delegations, Targets, Step, Layout, Body, root, targets, layout, Document}
use Rattle.document_parts.specs.Members.{Has, MayHave, HasJust, IsArray, IsObject, IsText, IsNumber}
use Rattle.document_parts.specs.Parts.{AreBytes, IsLength, IsHashes, HasExpires, NamesAreIds, signature_object, ids_of}
use Rattle.document_parts.specs.Bodies.{top_roles, HasHead, HasRootHead, HasRequired, Roles, roles_of, IsConsistent, NoMember, IsTextOf, AreTextsOf, reference_members, HasScope, IsDelegable, max_delegations, IsRuleList, max_steps, HasNoInspections}
use Rattle.metadata.specs.Shape.{kind_name, IsBody, IsFile, tables}
use Rattle.document_parts.specs.declared.documents.Kind.{Kind}
use Rattle.document_parts.specs.declared.documents.Kind.TheVariants as kinds

-- ---- keys and rules

abbrev pub WasKey : Json → Key → Type 0
WasKey v k = (public : List ℕ) × (k ≡ lms public) × (v ≡ key_object (lms public)) × AreBytes 56 public

abbrev pub WasRow : List ℕ → Json → List ℕ × Key → Type 0
WasRow name x e = (e.0 ≡ name) × WasKey x e.1

abbrev pub WasTable : Json → Table → Type 0
WasTable v table = IsObject WasRow v table × (length table ≤ 256)

pub record WasRuleOver (table : Table) (rule : RoleRule) : Type 0 where
  pub some : 0 < length rule.keyids
  pub most : length rule.keyids ≤ 16
  pub distinct : AreDistinct rule.keyids
  pub known : AllByRecursion (Contains (map (λ e. e.0) table)) rule.keyids
  pub threshold : rule.threshold ≤ length rule.keyids

abbrev pub HadRule : List ℕ → Json → Table → RoleRule → Type 0
HadRule ids v table rule =
    Has v ids (λ x. IsArray IsText x rule.keyids)
    × Has v (codes "threshold") (λ x. IsNumber 1 16 x rule.threshold)
    × WasRuleOver table rule

-- ---- root

abbrev pub HadRole : Json → List ℕ → Table → RoleRule → Type 0
HadRole v role keys rule = Has v role (λ x. HadRule (codes "keyids") x keys rule)

pub record WereRoles (v : Json) (keys : Table) (r : Roles) : Type 0 where
  pub just : HasJust v top_roles
  pub root : HadRole v (codes "root") keys r.root
  pub snapshot : HadRole v (codes "snapshot") keys r.snapshot
  pub targets : HadRole v (codes "targets") keys r.targets
  pub timestamp : HadRole v (codes "timestamp") keys r.timestamp

pub record WasRoot (signed : Json) (r : Root) : Type 0 where
  pub head : HasRootHead signed r.profile r.version r.expires
  pub consistent : IsConsistent signed
  pub keys : Has signed (codes "keys") (λ x. WasTable x r.keys)
  pub roles : Has signed (codes "roles") (λ x. WereRoles x r.keys (roles_of r))
  pub required : HasRequired signed r.profile r.required

-- ---- targets metadata

pub record WasLayoutReference (v : Json) (l : LayoutReference) : Type 0 where
  pub just : HasJust v reference_members
  pub keys : Has v (codes "keys") (λ x. WasTable x l.keys)
  pub owners : HadRule (codes "keyids") v l.keys l.owners
  pub links : Has v (codes "links") (λ x. AreTextsOf IsTargetPath x l.links)
  pub path : Has v (codes "path") (λ x. IsTextOf IsTargetPath x l.path)
  pub product : Has v (codes "product") (λ x. IsTextOf IsTargetPath x l.product)
  pub step : Has v (codes "step") (λ x. IsTextOf IsName x l.step)
  pub distinct : AreDistinct (l.path ∷ l.links)

abbrev pub WasCustom : Json → Option LayoutReference → Type 0
WasCustom v o = (ms : Members) × (v ≡ object ms) × MayHave v (codes "layout") WasLayoutReference o

abbrev pub HadLayoutReference : Json → Option LayoutReference → Type 0
HadLayoutReference v None = NoMember v (codes "custom") ⊎ Has v (codes "custom") (λ x. WasCustom x None)
HadLayoutReference v (Some l) = Has v (codes "custom") (λ x. WasCustom x (Some l))

abbrev pub WasListing : List ℕ → Json → Listing → Type 0
WasListing path v l =
    (path ≡ l.path) × IsTargetPath path
    × Has v (codes "length") (λ x. IsLength x l.len)
    × Has v (codes "hashes") (λ x. IsHashes x l.digest)
    × HadLayoutReference v l.layout

abbrev pub WasDelegation : Table → Json → Delegation → Type 0
WasDelegation keys v d =
    Has v (codes "name") (λ x. IsTextOf IsDelegable x d.name)
    × HadRule (codes "keyids") v keys d.rule
    × Has v (codes "terminating") (λ x. x ≡ boolean d.terminating)
    × HasScope v d.scope

abbrev pub WereDelegations : Table → Json → List Delegation → Type 0
WereDelegations keys v ds =
    IsArray (WasDelegation keys) v ds × (length ds ≤ max_delegations) × AreDistinct (map (λ d. d.name) ds)

abbrev pub HadDelegations : Json → Delegations → Type 0
HadDelegations v d =
    Has v (codes "keys") (λ x. WasTable x d.keys) × Has v (codes "roles") (λ x. WereDelegations d.keys x d.roles)

pub record WasTargets (signed : Json) (t : Targets) : Type 0 where
  pub head : HasHead signed t.version t.expires
  pub targets : Has signed (codes "targets") (λ x. IsObject WasListing x t.targets)
  pub delegations : MayHave signed (codes "delegations") HadDelegations t.delegations

-- ---- layouts

abbrev pub WasStep : Table → Json → Step → Type 0
WasStep keys v s =
    Has v (codes "name") (λ x. IsTextOf IsName x s.name)
    × HadRule (codes "pubkeys") v keys s.rule
    × Has v (codes "expected_materials") (λ x. IsRuleList x s.materials)
    × Has v (codes "expected_products") (λ x. IsRuleList x s.products)

abbrev pub WereSteps : Table → Json → List Step → Type 0
WereSteps keys v ss =
    IsArray (WasStep keys) v ss × (0 < length ss) × (length ss ≤ max_steps) × AreDistinct (map (λ s. s.name) ss)

pub record WasLayout (signed : Json) (l : Layout) : Type 0 where
  pub expires : HasExpires signed l.expires
  pub inspect : HasNoInspections signed
  pub keys : Has signed (codes "keys") (λ x. WasTable x l.keys)
  pub steps : Has signed (codes "steps") (λ x. WereSteps l.keys x l.steps)

-- ---- files

abbrev pub WereSignatureDigits : List ℕ → Type 0
WereSignatureDigits digits = (length digits ≤ 18648) × (length digits % 2 ≡ 0) × IsTrue (list_all is_hex digits)

abbrev pub WasEntry : Json → Signature → Type 0
WasEntry v e = (v ≡ signature_object e.keyid e.sig) × IsHex 64 e.keyid × WereSignatureDigits e.sig

abbrev pub WereSignatures : Json → List Signature → Type 0
WereSignatures v entries = IsArray WasEntry v entries × (length entries ≤ most_signatures) × AreDistinct (ids_of entries)

pub record WasEnvelope (v : Json) (entries : List Signature) (signed : Json) (type_name : List ℕ) : Type 0 where
  pub list : Json
  pub members : v ≡ object (member (codes "signatures") list (member (codes "signed") signed no_members))
  pub signatures : WereSignatures list entries
  pub typed : Has signed (codes "_type") (λ x. IsText x type_name)

abbrev pub WasBody : Kind → List Signature → Json → Body → Type 0
WasBody kinds.Root entries signed (root r) = WasRoot signed r
WasBody kinds.Timestamp entries signed body = IsBody kinds.Timestamp entries signed body
WasBody kinds.Snapshot entries signed body = IsBody kinds.Snapshot entries signed body
WasBody kinds.Targets entries signed (targets t) = WasTargets signed t
WasBody kinds.Layout entries signed (layout l) = WasLayout signed l
WasBody kinds.Link entries signed body = IsBody kinds.Link entries signed body
WasBody kind entries signed body = ⊥

pub record WasSignedFile (bytes : List ℕ) (entries : List Signature) (signed : Json) (type_name : List ℕ) : Type 0 where
  pub value : Json
  pub file : IsFile bytes value
  pub envelope : WasEnvelope value entries signed type_name

-- the file was this document
pub record WasDocument (kind : Kind) (bytes : List ℕ) (d : Document) : Type 0 where
  pub part : Json
  pub file : WasSignedFile bytes d.entries part (kind_name kind)
  pub signed : d.signed ≡ spelling part
  pub body : WasBody kind d.entries part d.body
  pub ids : AllByRecursion NamesAreIds (tables d.body)
