-- The signed part of a document has one body of its kind.
use Rattle.std.proofs.Common.{◌≡◌, ℕ, List, [], ◌∷◌, ◌++◌, codes, Option, refl, sym, ◌∙◌, subst}
use Rattle.canonical_json.specs.Json.{Json}
use Rattle.canonical_json.specs.Spelling.{IsProper}
use Rattle.keys_roles.specs.Plain.{Table, RoleRule}
use Rattle.document_parts.specs.Documents.{MetaFile, Profile, Root, Timestamp, Snapshot, LayoutReference, Listing, Delegations, Targets}
use Rattle.document_parts.specs.Members.{Has, IsObject}
use Rattle.document_parts.specs.Parts.{IsLength, IsHashes, IsTable, IsMetaFile}
use Rattle.document_parts.specs.Bodies.{HasRequired, IsRoot, IsTimestamp, IsMetaRow, AreMetaRows, IsSnapshot, IsListing, HasDelegations, IsTargets}
use Rattle.document_parts.proofs.Congruence.{same2, same3, same4, same7}
use Rattle.document_parts.proofs.Once.{IsOnce, has-once, may-once, object-once, number-once}
use Rattle.document_parts.proofs.DelegationsOnce.{delegations-once}
use Rattle.metadata.proofs.ReferencesOnce.{references-once}
use Rattle.metadata.proofs.RootParts.{head-profile, required-once}
use Rattle.document_parts.proofs.PartsOnce.{expires-once, version-once, hashes-once, meta-once, table-once, rule-once, HasSomeRule, pair-is}

-- ---- root, timestamp, snapshot

abbrev role-once : (name : List ℕ) → IsOnce (λ v r. Has v (codes "roles") (λ x. Has x name (λ y. HasSomeRule (codes "keyids") y r)))
role-once name = has-once (codes "roles") (λ x r. Has x name (λ y. HasSomeRule (codes "keyids") y r)) (has-once name (HasSomeRule (codes "keyids")) (rule-once (codes "keyids")))

pub root-once : IsOnce IsRoot
root-once v a b p h k =
    let f = h.roles in
    let g = k.roles in
    let m = f.2 in
    let n = g.2 in
    let profile : a.profile ≡ b.profile = head-profile v a.profile b.profile a.version b.version a.expires b.expires p h.head k.head in
    let other = subst (λ (q : Profile). HasRequired v q b.required) (sym profile) k.required in
    same7 (make a.profile a.required)
    (version-once (codes "version") v a.version b.version p h.head.1 k.head.1)
    (expires-once v a.expires b.expires p h.head.2 k.head.2)
    (has-once (codes "keys") IsTable table-once v a.keys b.keys p h.keys k.keys)
    (role-once (codes "root") v a.root b.root p (f.0, f.1, (m.root.0, m.root.1, (a.keys, m.root.2))) (g.0, g.1, (n.root.0, n.root.1, (b.keys, n.root.2))))
    (role-once (codes "targets") v a.targets b.targets p (f.0, f.1, (m.targets.0, m.targets.1, (a.keys, m.targets.2))) (g.0, g.1, (n.targets.0, n.targets.1, (b.keys, n.targets.2))))
    (role-once (codes "snapshot") v a.snapshot b.snapshot p (f.0, f.1, (m.snapshot.0, m.snapshot.1, (a.keys, m.snapshot.2))) (g.0, g.1, (n.snapshot.0, n.snapshot.1, (b.keys, n.snapshot.2))))
    (role-once (codes "timestamp") v a.timestamp b.timestamp p (f.0, f.1, (m.timestamp.0, m.timestamp.1, (a.keys, m.timestamp.2))) (g.0, g.1, (n.timestamp.0, n.timestamp.1, (b.keys, n.timestamp.2))))
    ∙ same2 (λ p o. make p o b.version b.expires b.keys b.root b.targets b.snapshot b.timestamp) profile (required-once a.profile v a.required b.required p h.required other)
  where
    make : Profile → Option (List (List ℕ)) → ℕ → ℕ → Table → RoleRule → RoleRule → RoleRule → RoleRule → Root
    make p o version expires keys r t s m =
        record { version = version; expires = expires; keys = keys; root = r; targets = t; snapshot = s; timestamp = m; profile = p; required = o }

pub timestamp-once : IsOnce IsTimestamp
timestamp-once v a b p h k =
    let f = h.meta in
    let g = k.meta in
    same3 make
    (version-once (codes "version") v a.version b.version p h.head.1 k.head.1)
    (expires-once v a.expires b.expires p h.head.2 k.head.2)
    (has-once (codes "meta") (λ x e. Has x (codes "snapshot.json") (λ y. IsMetaFile y e)) (has-once (codes "snapshot.json") IsMetaFile meta-once) v a.snapshot b.snapshot p
    (f.0, f.1, f.2.1) (g.0, g.1, g.2.1))
  where
    make : ℕ → ℕ → MetaFile → Timestamp
    make version expires snapshot = record { version = version; expires = expires; snapshot = snapshot }

-- the name of a file is its role's, and a suffix
suffix-once : (a b : List ℕ) → a ++ codes ".json" ≡ b ++ codes ".json" → a ≡ b
suffix-once [] [] e = refl
suffix-once [] (c ∷ []) e = cc
suffix-once [] (c ∷ d ∷ []) e = cc
suffix-once [] (c ∷ d ∷ f ∷ []) e = cc
suffix-once [] (c ∷ d ∷ f ∷ g ∷ []) e = cc
suffix-once [] (c ∷ d ∷ f ∷ g ∷ h ∷ []) e = cc
suffix-once [] (c ∷ d ∷ f ∷ g ∷ h ∷ i ∷ r) e = cc
suffix-once (c ∷ []) [] e = cc
suffix-once (c ∷ d ∷ []) [] e = cc
suffix-once (c ∷ d ∷ f ∷ []) [] e = cc
suffix-once (c ∷ d ∷ f ∷ g ∷ []) [] e = cc
suffix-once (c ∷ d ∷ f ∷ g ∷ h ∷ []) [] e = cc
suffix-once (c ∷ d ∷ f ∷ g ∷ h ∷ i ∷ r) [] e = cc
suffix-once (c ∷ cs) (d ∷ ds) e =
    let first : c ≡ d = cc in
    let rest : cs ++ codes ".json" ≡ ds ++ codes ".json" = cc in
    same2 (λ x xs. x ∷ xs) first (suffix-once cs ds rest)

pub rows-once : IsOnce AreMetaRows
rows-once v a b p h k =
    object-once IsMetaRow (λ n w c d q f g. pair-is c d (suffix-once c.0 d.0 (sym f.0 ∙ g.0)) (meta-once w c.1 d.1 q f.2 g.2)) v a b p h.each k.each

pub snapshot-once : IsOnce IsSnapshot
snapshot-once v a b p h k =
    same3 make
    (version-once (codes "version") v a.version b.version p h.head.1 k.head.1)
    (expires-once v a.expires b.expires p h.head.2 k.head.2)
    (has-once (codes "meta") AreMetaRows rows-once v a.meta b.meta p h.meta k.meta)
  where
    make : ℕ → ℕ → List (List ℕ × MetaFile) → Snapshot
    make version expires meta = record { version = version; expires = expires; meta = meta }

-- ---- targets

pub listing-once : (n : List ℕ) (v : Json) (a b : Listing) → IsProper v → IsListing n v a → IsListing n v b → a ≡ b
listing-once n v a b p h k =
    same4 make (sym h.0 ∙ k.0)
    (has-once (codes "length") IsLength (number-once 0 4294967295) v a.len b.len p h.2 k.2)
    (has-once (codes "hashes") IsHashes hashes-once v a.digest b.digest p h.3 k.3)
    (references-once v a.layout b.layout p h.4 k.4)
  where
    make : List ℕ → ℕ → List ℕ → Option LayoutReference → Listing
    make path len digest layout = record { path = path; len = len; digest = digest; layout = layout }

pub targets-once : IsOnce IsTargets
targets-once v a b p h k =
    same4 make
    (version-once (codes "version") v a.version b.version p h.head.1 k.head.1)
    (expires-once v a.expires b.expires p h.head.2 k.head.2)
    (has-once (codes "targets") (IsObject IsListing) (object-once IsListing listing-once) v a.targets b.targets p h.targets k.targets)
    (may-once (codes "delegations") HasDelegations delegations-once v a.delegations b.delegations p h.delegations k.delegations)
  where
    make : ℕ → ℕ → List Listing → Option Delegations → Targets
    make version expires targets delegations = record { version = version; expires = expires; targets = targets; delegations = delegations }
