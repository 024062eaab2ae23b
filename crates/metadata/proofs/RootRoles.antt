-- The four roles of a root, member by member.
use Rattle.std.proofs.Common.{◌≡◌, ℕ, List, codes, refl, sym, ◌∙◌, subst, inl, inr}
use Rattle.canonical_json.specs.Json.{Json, object, Members, no_members, member, names, HasMember}
use Rattle.canonical_json.specs.Spelling.{IsProper}
use Rattle.keys_roles.specs.Plain.{Table, RoleRule}
use Rattle.document_parts.specs.Members.{HasJust}
use Rattle.document_parts.specs.Parts.{HasRule}
use Rattle.document_parts.specs.Bodies.{top_roles, HasRole, Roles, AreRoles}
use Rattle.document_parts.proofs.Once.{member_once}

-- the members of an object of four roles
abbrev pub four : Json → Json → Json → Json → Json
four a b c d = object (member (codes "root") a (member (codes "snapshot") b (member (codes "targets") c (member (codes "timestamp") d no_members))))

pub record IsFour (v : Json) : Type 0 where
  pub root : Json
  pub snapshot : Json
  pub targets : Json
  pub timestamp : Json
  pub is : v ≡ four root snapshot targets timestamp

spelled : (ms : Members) → names ms ≡ top_roles → IsFour (object ms)
spelled no_members h = absurd (cc)
spelled (member m a no_members) h = absurd (cc)
spelled (member m a (member n b no_members)) h = absurd (cc)
spelled (member m a (member n b (member o c no_members))) h = absurd (cc)
spelled (member m a (member n b (member o c (member p d no_members)))) h =
    let first : m ≡ codes "root" = cc in
    let second : n ≡ codes "snapshot" = cc in
    let third : o ≡ codes "targets" = cc in
    let fourth : p ≡ codes "timestamp" = cc in
    record { root = a; snapshot = b; targets = c; timestamp = d; is = cc }
spelled (member m a (member n b (member o c (member p d (member q e rest))))) h = absurd (cc)

pub just_four : (v : Json) → HasJust v top_roles → IsFour v
just_four v (ms, is, named) =
    let f = spelled ms named in
    record { root = f.root; snapshot = f.snapshot; targets = f.targets; timestamp = f.timestamp; is = is ∙ f.is }

module _ (v a b c d : Json) (proper : IsProper v) (is : v ≡ four a b c d) where
  at : (role : List ℕ) (x : Json) → HasMember (four a b c d) role x → HasMember v role x
  at role x h = subst (λ (z : Json). HasMember z role x) (sym is) h

  pub has_root : HasMember v (codes "root") a
  has_root = at (codes "root") a (inl (refl, refl))

  pub has_snapshot : HasMember v (codes "snapshot") b
  has_snapshot = at (codes "snapshot") b (inr (inl (refl, refl)))

  pub has_targets : HasMember v (codes "targets") c
  has_targets = at (codes "targets") c (inr (inr (inl (refl, refl))))

  pub has_timestamp : HasMember v (codes "timestamp") d
  has_timestamp = at (codes "timestamp") d (inr (inr (inr (inl (refl, refl)))))

  rule_of : (role : List ℕ) (x : Json) (keys : Table) (r : RoleRule) → HasMember v role x → HasRole v role keys r → HasRule (codes "keyids") x keys r
  rule_of role x keys r h k = subst (λ (z : Json). HasRule (codes "keyids") z keys r) (member_once v role k.0 x proper k.1 h) k.2

  pub root_rule : (keys : Table) (r : Roles) → AreRoles v keys r → HasRule (codes "keyids") a keys r.root
  root_rule keys r h = rule_of (codes "root") a keys r.root has_root h.root

  pub snapshot_rule : (keys : Table) (r : Roles) → AreRoles v keys r → HasRule (codes "keyids") b keys r.snapshot
  snapshot_rule keys r h = rule_of (codes "snapshot") b keys r.snapshot has_snapshot h.snapshot

  pub targets_rule : (keys : Table) (r : Roles) → AreRoles v keys r → HasRule (codes "keyids") c keys r.targets
  targets_rule keys r h = rule_of (codes "targets") c keys r.targets has_targets h.targets

  pub timestamp_rule : (keys : Table) (r : Roles) → AreRoles v keys r → HasRule (codes "keyids") d keys r.timestamp
  timestamp_rule keys r h = rule_of (codes "timestamp") d keys r.timestamp has_timestamp h.timestamp

  pub are_roles : (keys : Table) (r : Roles) → HasRule (codes "keyids") a keys r.root → HasRule (codes "keyids") b keys r.snapshot
      → HasRule (codes "keyids") c keys r.targets → HasRule (codes "keyids") d keys r.timestamp → AreRoles v keys r
  are_roles keys r ha hb hc hd = record {
    just = (_, is, refl);
    root = (a, has_root, ha);
    snapshot = (b, has_snapshot, hb);
    targets = (c, has_targets, hc);
    timestamp = (d, has_timestamp, hd);
  }
