-- What a document of a kind says.
use Rattle.std.proofs.Common.{◌≡◌, List, refl}
use Rattle.canonical_json.specs.Json.{Json}
use Rattle.keys_roles.specs.Plain.{Signature}
use Rattle.document_parts.specs.Bodies.{IsRoot, IsTimestamp, IsSnapshot, IsTargets, IsLayout, IsLink}
use Rattle.document_parts.specs.Documents.{Body, root, timestamp, snapshot, targets, layout, link, Root, Timestamp, Snapshot, Targets, Layout}
use Rattle.document_parts.specs.Links.{Link}
use Rattle.metadata.specs.Shape.{IsBody}
use Rattle.document_parts.specs.declared.documents.Kind.TheVariants as kinds

pub root_in : (es : List Signature) (v : Json) (b : Body) → IsBody kinds.Root es v b → (x : Root) × IsRoot v x × (b ≡ root x)
root_in es v (root r) h = (r, h, refl)
root_in es v (timestamp t) h = absurd h
root_in es v (snapshot s) h = absurd h
root_in es v (targets t) h = absurd h
root_in es v (layout l) h = absurd h
root_in es v (link l) h = absurd h

pub timestamp_in : (es : List Signature) (v : Json) (b : Body) → IsBody kinds.Timestamp es v b → (x : Timestamp) × IsTimestamp v x × (b ≡ timestamp x)
timestamp_in es v (root r) h = absurd h
timestamp_in es v (timestamp t) h = (t, h, refl)
timestamp_in es v (snapshot s) h = absurd h
timestamp_in es v (targets t) h = absurd h
timestamp_in es v (layout l) h = absurd h
timestamp_in es v (link l) h = absurd h

pub snapshot_in : (es : List Signature) (v : Json) (b : Body) → IsBody kinds.Snapshot es v b → (x : Snapshot) × IsSnapshot v x × (b ≡ snapshot x)
snapshot_in es v (root r) h = absurd h
snapshot_in es v (timestamp t) h = absurd h
snapshot_in es v (snapshot s) h = (s, h, refl)
snapshot_in es v (targets t) h = absurd h
snapshot_in es v (layout l) h = absurd h
snapshot_in es v (link l) h = absurd h

pub targets_in : (es : List Signature) (v : Json) (b : Body) → IsBody kinds.Targets es v b → (x : Targets) × IsTargets v x × (b ≡ targets x)
targets_in es v (root r) h = absurd h
targets_in es v (timestamp t) h = absurd h
targets_in es v (snapshot s) h = absurd h
targets_in es v (targets t) h = (t, h, refl)
targets_in es v (layout l) h = absurd h
targets_in es v (link l) h = absurd h

pub layout_in : (es : List Signature) (v : Json) (b : Body) → IsBody kinds.Layout es v b → (x : Layout) × IsLayout v x × (b ≡ layout x)
layout_in es v (root r) h = absurd h
layout_in es v (timestamp t) h = absurd h
layout_in es v (snapshot s) h = absurd h
layout_in es v (targets t) h = absurd h
layout_in es v (layout l) h = (l, h, refl)
layout_in es v (link l) h = absurd h

pub link_in : (es : List Signature) (v : Json) (b : Body) → IsBody kinds.Link es v b → (x : Link) × IsLink es v x × (b ≡ link x)
link_in es v (root r) h = absurd h
link_in es v (timestamp t) h = absurd h
link_in es v (snapshot s) h = absurd h
link_in es v (targets t) h = absurd h
link_in es v (layout l) h = absurd h
link_in es v (link l) h = (l, h, refl)
