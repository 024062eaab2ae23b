-- What refers a target to its layout (this project's profile of TUF 1.0, section 4.5, custom).
use Rattle.std.specs.Prelude.{◌≡◌, ℕ, pos, List, codes}
use Rattle.canonical_json.specs.Json.{Json, integer, text, array, object, no_members, member}
use Rattle.canonical_json.specs.View.{items_of}
use Rattle.document_parts.specs.declared.documents.Kind.TheVariants as kinds
use Rattle.drafting.specs.Drafts.{File, HasPart}
use Rattle.drafting.specs.Members.{HasNone, IsObjectAt, Puts, PutsAll}
use Rattle.drafting.specs.Roots.{Rule, ids_of, keys_of}
use Rattle.chain_drafting.specs.Layouts.{texts}
use Rattle.chain_drafting.specs.Within.{Inside}

-- the rule of the owners, the paths of the layout and of its links, the path of the product, and the step
pub record Said : Type 0 where
  pub owners : Rule
  pub path : List ℕ
  pub links : List (List ℕ)
  pub product : List ℕ
  pub step : List ℕ

-- with this table of the owners' keys
abbrev pub reference_object : Json → Said → Json
reference_object keys s =
    object (member (codes "keyids") (array (items_of (ids_of s.owners.keys)))
    (member (codes "keys") keys
    (member (codes "links") (texts s.links)
    (member (codes "path") (text s.path)
    (member (codes "product") (text s.product)
    (member (codes "step") (text s.step)
    (member (codes "threshold") (integer (pos s.owners.threshold)) no_members)))))))

-- the value says this, its table having just the owners' keys
abbrev pub IsReference : Said → Json → Type 0
IsReference s v = (keys : Json) × PutsAll (keys_of s.owners.keys) (object no_members) keys × (v ≡ reference_object keys s)

-- the member is such a reference, and everything beside it is as it was
abbrev pub PutsReference : Said → Json → Json → Type 0
PutsReference s before after = (v : Json) × IsReference s v × Puts (codes "layout") v before after

-- in the listing of the target `custom.layout` is the reference, and all else is as it was
abbrev pub RefersTarget : List ℕ → Said → Json → Json → Type 0
RefersTarget target s = Inside (codes "targets") (Inside target (Inside (codes "custom") (PutsReference s)))

-- the signed part of the file, which is targets metadata, with the reference in the target's listing
pub record DraftsReference (file : File) (target : List ℕ) (s : Said) (part : Json) : Type 0 where
  pub before : Json
  pub base : HasPart kinds.Targets file before
  pub refers : RefersTarget target s before part

-- the file is targets metadata that do not list the target
abbrev pub IsNoTarget : File → List ℕ → Type 0
IsNoTarget file target = (before old : Json) × HasPart kinds.Targets file before × IsObjectAt before (codes "targets") old × HasNone old target
