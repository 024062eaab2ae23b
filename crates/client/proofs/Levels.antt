-- A client that is level with a server: what it has beside the server's root, timestamp and snapshot is the server's, and of each name that it asked
-- for it has the document or the file. What it still misses, the server has.
use Rattle.std.proofs.Common.{◌≡◌, ◌≢◌, ◌⊎◌, inl, inr, ℕ, suc, ◌+◌, ◌<◌, ◌≤◌, true, List, [], ◌∷◌, ◌++◌, map, length, Option, Some, None, option_map, Ok, Err, refl, sym, ap, ◌∙◌, subst, arith, length-append, bytes_eq, IsTrue}
use Rattle.std.specs.Prelude.{IfSome, IsSome, codes, is_some, slice_index_or}
use Rattle.std.proofs.lemmas.Bool.{both_ways}
use Rattle.std.specs.List.{AllByRecursion}
use Rattle.std.proofs.lemmas.List.{length-map, append_cancel_left}
use Rattle.std.proofs.lemmas.Slice.Eq.{bytes_eq-Decides}
use Rattle.sha2.specs.Sha256.{sha256}
use Rattle.limits.specs.Limits.{blob_limit, most_held}
use Rattle.path_patterns.specs.Grammar.{IsName, IsTargetPath}
use Rattle.path_patterns.specs.Names.{IsNameOf, IsDigest, dotted}
use Rattle.keys_roles.proofs.Elements.{each_more, fewer, for_each, of_each}
use Rattle.keys_roles.specs.Plain.{look_up}
use Rattle.keys_roles.specs.Rules.{AreDistinct}
use Rattle.keys_roles.specs.steps.Counting.{IsIn}
use Rattle.document_parts.specs.Bodies.{IsListable}
use Rattle.document_parts.specs.Documents.{LayoutReference, MetaFile, Root, Snapshot, Targets}
use Rattle.metadata.specs.File.{Bytes, File, Name, Names, IsFileOf, snapshot_form, targets_form}
use Rattle.document_parts.specs.Parts.{last_number}
use Rattle.denials.specs.Orders.{BlobMissing, Denial, Denied, Judged, RoleMissing, Same, Stop, holds, pass}
use Rattle.delegations.proofs.ByHalves.{rest_rises}
use Rattle.delegations.proofs.KeyOrder.{sorts_bytes}
use Rattle.delegations.specs.Delegation.{before}
use Rattle.delegations.specs.Missed.{HasRowsOf, IsMissed}
use Rattle.delegations.specs.Rows.{HasHash, HasLength, Rises, Rows, entry_of, named_row, place_before, row_at, same_place, value_at, with_row}
use Rattle.delegations.specs.Search.{Found, MeetsEdge, shelf_of, visit}
use Rattle.trust_rules.proofs.LinesGive.{needed}
use Rattle.trust_rules.proofs.OneJudgement.{search-definite}
use Rattle.trust_rules.proofs.RowsInOrder.{length_with_row}
use Rattle.trust_rules.proofs.ShapedOnce.{Shapes, file-once, targets-tells}
use Rattle.trust_rules.specs.Misses.{IsPart, MissesBlob, MissesRole, IsProperListing, support_paths}
use Rattle.trust_rules.specs.State.{IsCoherent, IsState, State, Trusted, blob_at, metadata_of}
use Rattle.trust_rules.specs.Offers.{TargetsOffer, offer, put_blob}
use Rattle.trust_rules.specs.Grants.{Listed, grants, listed}
use Rattle.trust_rules.specs.Runs.{with_trusted}
use Rattle.client.specs.Behind.{most_rows}
use Rattle.client.specs.steps.Laws.{GrantLaws, NewLaws, StepLaws}
use Rattle.client.proofs.Refused as refused
use Rattle.client.proofs.RootsFollow.{held_by}
use Rattle.client.proofs.StampAndSnapshot.{Server, server_of}
use Rattle.client.proofs.Standing.{Lives, blob_says, in_key, is_none, is_there, key_in, listed_each, listed_in, live_says, named_says, none_there, now_there, one_place, put_or_was, place_self, row_says, same_blob, same_role, some_one, some_there, still_there, version_small}

-- ---- what was asked for

pub record HeldDocument (shelf : Rows) (name : Bytes) : Type 0 where
  pub version : ℕ
  pub role : Name
  pub small : version ≤ last_number
  pub is : name ≡ codes "metadata/" ++ dotted version role
  pub there : IsSome (row_at shelf role version)

pub record HeldFile (blobs : List (Bytes × Bytes)) (name : Bytes) : Type 0 where
  pub text : Bytes
  pub path : Bytes
  pub digest : Bytes
  pub is : name ≡ codes "targets/" ++ text
  pub asks : IsNameOf text path (Some digest)
  pub there : IsSome (blob_at blobs digest)

abbrev pub IsHeldName : Rows → List (Bytes × Bytes) → Bytes → Type 0
IsHeldName shelf blobs name = HeldDocument shelf name ⊎ HeldFile blobs name

pub record HeldRole (shelf : Rows) (snap : File Snapshot) (role : Name) : Type 0 where
  pub entry : MetaFile
  pub listed : entry_of snap role ≡ Some entry
  pub there : IsSome (row_at shelf role entry.version)

pub record HeldPath (S : State) (blobs : List (Bytes × Bytes)) (path : Bytes) (now : ℕ) (at : Bytes) : Type 0 where
  pub listing : Listed
  pub lists : listed S.trusted path now (Ok listing)
  pub among : IsIn (path ∷ support_paths listing.listing.layout) at
  pub own : Listed
  pub lists_own : listed S.trusted at now (Ok own)
  pub there : IsSome (blob_at blobs own.listing.digest)

pub record Level (S D : State) (path : Bytes) (now : ℕ) (names : Names) : Type 0 where
  pub valid : IsState D
  pub part : IsPart D S
  pub snap : File Snapshot
  pub snapped : S.trusted.snapshot ≡ Some snap
  pub snap_read : IsFileOf snapshot_form snap
  pub roles : Names
  pub roles_distinct : AreDistinct roles
  pub roles_held : AllByRecursion (HeldRole D.trusted.shelf snap) roles
  pub paths : Names
  pub paths_distinct : AreDistinct paths
  pub paths_held : AllByRecursion (HeldPath S D.blobs path now) paths
  pub few : length names ≤ length roles + length paths
  pub room : length D.trusted.shelf ≤ most_rows + length roles
  pub held : AllByRecursion (IsHeldName D.trusted.shelf D.blobs) names

each_weaker : {X : Type 0} (P Q : X → Type 0) (xs : List X) → ((x : X) → P x → Q x) → AllByRecursion P xs → AllByRecursion Q xs
each_weaker P Q [] f h = tt
each_weaker P Q (x ∷ xs) f h = (f x h.0, each_weaker P Q xs f h.1)

-- ---- how many there are

most_listed : (snap : File Snapshot) → IsFileOf snapshot_form snap → length snap.body.meta ≤ 128
most_listed snap read = read.read.body.meta.2.most

pub roles_few : (shelf : Rows) (snap : File Snapshot) (roles : Names) → IsFileOf snapshot_form snap → AreDistinct roles → AllByRecursion (HeldRole shelf snap) roles → length roles ≤ 128
roles_few shelf snap roles read distinct held =
    let few = fewer roles (map (λ r. r.0) snap.body.meta) distinct
    (λ x in_roles. let one = of_each (HeldRole shelf snap) roles x held in_roles in listed_in snap.body.meta x one.entry one.listed) in
    let size : length (map (λ r. r.0) snap.body.meta) ≡ length snap.body.meta = length-map snap.body.meta (λ r. r.0) in
    let most = most_listed snap read in
    omega (arith, few, size, most)

pub others_few : (shelf : Rows) (snap : File Snapshot) (roles : Names) (role : Name) (entry : MetaFile) → IsFileOf snapshot_form snap → AreDistinct roles → AllByRecursion (HeldRole shelf snap) roles
    → entry_of snap role ≡ Some entry → AllByRecursion (λ y. role ≢ y) roles → length roles < 128
others_few shelf snap roles role entry read distinct held is other =
    let few = fewer (role ∷ roles) (map (λ r. r.0) snap.body.meta) (other, distinct) (λ x h. by x h) in
    let size : length (map (λ r. r.0) snap.body.meta) ≡ length snap.body.meta = length-map snap.body.meta (λ r. r.0) in
    let most = most_listed snap read in
    omega (arith, few, size, most)
  where
    by : (x : Name) → IsIn (role ∷ roles) x → IsIn (map (λ r. r.0) snap.body.meta) x
    by x (inl e) = subst (λ (n : Name). IsIn (map (λ r. r.0) snap.body.meta) n) e (listed_in snap.body.meta role entry is)
    by x (inr h) = let one = of_each (HeldRole shelf snap) roles x held h in listed_in snap.body.meta x one.entry one.listed

needed_few : (o : Option LayoutReference) → IfSome o (λ r. AllByRecursion IsTargetPath (r.path ∷ r.links) × (length r.links ≤ 64)) → length (support_paths o) ≤ 65
needed_few None h = omega arith
needed_few (Some r) h = let few = h.1 in omega (arith, few)

above : (key : Bytes) (rows : List (Bytes × Bytes)) → ((k : ℕ) (d : Bytes × Bytes) → k < length rows → before key (slice_index_or rows k d).0 ≡ true) → AllByRecursion (λ y. key ≢ y) (map (λ r. r.0) rows)
above key [] f = tt
above key (x ∷ rows) f = (
  (λ e. both_ways (before key key) (sorts_bytes.itself key) (subst (λ (y : Bytes). before key y ≡ true) (sym e) (f 0 x (omega arith)))),
  above key rows (λ k d h. f (suc k) d (omega arith)),
)

distinct_keys : (rows : List (Bytes × Bytes)) → Rises before rows → AreDistinct (map (λ r. r.0) rows)
distinct_keys [] r = tt
distinct_keys (row ∷ rows) r = (above row.0 rows (λ k d h. r 0 (suc k) d (omega arith) (omega arith)), distinct_keys rows (rest_rises before row rows r))

-- blobs that are among others, one of which they lack
pub blobs_few : (mine its : List (Bytes × Bytes)) (digest : Bytes) → Rises before mine → ((d b : Bytes) → blob_at mine d ≡ Some b → blob_at its d ≡ Some b) → IsSome (blob_at its digest)
    → blob_at mine digest ≡ None → length mine < length its
blobs_few mine its digest rises shared there lacks =
    let few = fewer (digest ∷ map (λ r. r.0) mine) (map (λ r. r.0) its) (apart_from, distinct_keys mine rises) inside in
    let a = length-map mine (λ (r : Bytes × Bytes). r.0) in
    let b = length-map its (λ (r : Bytes × Bytes). r.0) in
    omega (arith, few, a, b)
  where
    apart_from : AllByRecursion (λ y. digest ≢ y) (map (λ r. r.0) mine)
    apart_from = for_each (λ y. digest ≢ y) (map (λ r. r.0) mine)
        (λ y h e. none_there (blob_at mine digest) lacks (in_key mine digest (subst (λ (k : Bytes). IsIn (map (λ r. r.0) mine) k) (sym e) h)))

    inside : (x : Bytes) → IsIn (digest ∷ map (λ r. r.0) mine) x → IsIn (map (λ r. r.0) its) x
    inside x (inl e) = let one = is_there (blob_at its digest) there in subst (λ (k : Bytes). IsIn (map (λ r. r.0) its) k) e (key_in its digest one.0 one.1)
    inside x (inr h) = let one = is_there (blob_at mine x) (in_key mine x h) in key_in its x one.0 (shared x one.0 one.1)

-- ---- names

abbrev first_byte : Bytes → ℕ
first_byte [] = 0
first_byte (x ∷ xs) = x

apart : (a b : Bytes) → codes "metadata/" ++ a ≡ codes "targets/" ++ b → ⊥
apart a b e = let k : 109 ≡ 116 = ap first_byte e in omega (arith, k)

module _ (news : NewLaws) (grant : GrantLaws) (step : StepLaws) (shapes : Shapes) (S : State) (sure : IsState S) (coherent : IsCoherent S.trusted) (path : Bytes) (is_path : IsTargetPath path) (now : ℕ) where
  listed_same : (at : Bytes) (x y : Listed) → listed S.trusted at now (Ok x) → listed S.trusted at now (Ok y) → x ≡ y
  listed_same at x y h k = ok_one x y (grant.listed_once S.trusted at now (Ok x) (Ok y) h k)
    where
      ok_one : (x y : Listed) → ◌≡◌ {A = Judged Listed} (Ok x) (Ok y) → x ≡ y
      ok_one x y e = cc

  pub paths_few : (blobs : List (Bytes × Bytes)) (paths : Names) → AreDistinct paths → AllByRecursion (HeldPath S blobs path now) paths → length paths ≤ 66
  paths_few blobs [] distinct held = omega arith
  paths_few blobs (p ∷ ps) distinct held =
      let one = held.0 in
      let size = needed_few one.listing.listing.layout (grant.proper S path now one.listing sure one.lists).2 in
      let few = fewer (p ∷ ps) (path ∷ support_paths one.listing.listing.layout) distinct (λ x h. among one x (of_each (HeldPath S blobs path now) (p ∷ ps) x held h)) in
      omega (arith, size, few)
    where
      among : (one : HeldPath S blobs path now p) (x : Bytes) → HeldPath S blobs path now x → IsIn (path ∷ support_paths one.listing.listing.layout) x
      among one x h = subst (λ (l : Listed). IsIn (path ∷ support_paths l.listing.layout) x) (listed_same path h.listing one.listing h.lists one.lists) h.among

  -- ---- a document that is missed

  module _ (D : State) (valid : IsState D) (part : IsPart D S) (role : Name) (version : ℕ) (h : grants D path None now (Err (Denied (RoleMissing role version)))) where
    pub gap : MissesRole D S path now role version
    gap = grant.roles D S path now role version part h

    live : Lives D.trusted.timestamp D.trusted.snapshot gap.root gap.snap now
    live = live_says D.trusted.timestamp D.trusted.snapshot gap.root now gap.snap gap.live

    pub missed : IsMissed (shelf_of gap.root gap.snap D.trusted.shelf) gap.at now role version
    missed = grant.missed (shelf_of gap.root gap.snap D.trusted.shelf) gap.at now role version gap.misses

    gap_snapped : S.trusted.snapshot ≡ Some gap.snap
    gap_snapped = sym part.snapshot ∙ live.snapshot

    has : Server S.trusted gap.root live.stamp gap.snap
    has = server_of S.trusted gap.root live.stamp gap.snap (held_by S.trusted gap.root sure.trusted (sym part.root ∙ gap.trusts)) coherent (sym part.timestamp ∙ live.timestamp) gap_snapped

    pub its : (file : File Targets) × (row_at S.trusted.shelf role missed.entry.version ≡ Some file) × HasLength missed.entry file.bytes × HasHash missed.entry file.bytes
    its = named_says S.trusted.shelf role missed.entry (listed_each (λ m. IsTrue (is_some (named_row S.trusted.shelf m.0 m.1))) gap.snap.body.meta role missed.entry has.all missed.listed)

    says : IsFileOf targets_form its.0 × (its.0.body.version ≡ missed.entry.version) × IsName role × IsListable role
    says = row_says S.trusted.shelf role missed.entry.version its.0 sure.trusted.rows its.1

    pub role_named : IsName role
    role_named = says.2

    abbrev pub file : File Targets
    file = its.0

    pub small : version ≤ last_number
    small = let low = version_small its.0 says.0 in let e = says.1 in let v = missed.at in omega (arith, low, e, v)

    pub served : metadata_of S.trusted (dotted version role) ≡ Some file.bytes
    served =
        news.role_named S.trusted version role sure.trusted small says.3
        ∙ ap (option_map (λ (f : File Targets). f.bytes)) (subst (λ (v : ℕ). row_at S.trusted.shelf role v ≡ Some its.0) missed.at its.1)

    pub read : IsFileOf targets_form file
    read = says.0

    absent : row_at D.trusted.shelf role missed.entry.version ≡ None
    absent = subst (λ (v : ℕ). row_at D.trusted.shelf role v ≡ None) (sym missed.at) missed.absent

    -- over the server's shelf the edge does not fail, where the server grants the target
    has_rows : HasRowsOf (shelf_of gap.root gap.snap D.trusted.shelf) (shelf_of gap.root gap.snap S.trusted.shelf)
    has_rows = record { top = refl; listing = refl; rows = λ role entry f l at. part.rows gap.snap gap_snapped role entry f l at }

    fine : (b : Bytes) → grants S path None now (Ok b) → (s : Stop) → visit (shelf_of gap.root gap.snap S.trusted.shelf) missed.edge now (Err s) → ⊥
    fine b g s v =
        let found = gap.finds b g in
        not_both found.0 s (search-definite (shelf_of gap.root gap.snap S.trusted.shelf) gap.at now (Ok found.0) (Err s) found.1 (missed.ends (shelf_of gap.root gap.snap S.trusted.shelf) has_rows s v))
      where
        not_both : (f : Found) (s : Stop) → ◌≡◌ {A = Judged Found} (Ok f) (Err s) → ⊥
        not_both f s e = cc

    abbrev put_here : State
    put_here = with_trusted D (record D.trusted { shelf = with_row place_before D.trusted.shelf (role, missed.entry.version) file })

    accepted : MeetsEdge (shelf_of gap.root gap.snap D.trusted.shelf) missed.edge file → now < file.body.expires → length D.trusted.shelf < most_held
        → offer D.trusted (TargetsOffer role) file.bytes now (Ok (record D.trusted { shelf = with_row place_before D.trusted.shelf (role, missed.entry.version) file }))
    accepted meets fresh room =
        news.targets D.trusted gap.root now gap.trusts live.root_lives live.stamp live.timestamp live.stamp_lives gap.snap live.snapshot live.names live.snap_lives role missed.entry its.0
        says.0 missed.listed its.2 its.3 says.1 (missed.vouches its.0 meets) fresh (is_none _ absent) room

    -- where its document is denied, the server does not grant the target
    pub refuses : length D.trusted.shelf < most_held → (d : Denial) → offer D.trusted (TargetsOffer role) file.bytes now (Err (Denied d)) → (b : Bytes) → grants S path None now (Ok b) → ⊥
    refuses room d o b g =
        let l : look_up gap.snap.body.meta missed.edge.role ≡ Some missed.entry = subst (λ (n : Name). look_up gap.snap.body.meta n ≡ Some missed.entry) (sym missed.into) missed.listed in
        let k : row_at S.trusted.shelf missed.edge.role missed.entry.version ≡ Some its.0 = subst (λ (n : Name). row_at S.trusted.shelf n missed.entry.version ≡ Some its.0) (sym missed.into) its.1 in
        let f = fine b g in
        let fresh = refused.lives (shelf_of gap.root gap.snap S.trusted.shelf) missed.edge missed.entry its.0 now l k its.2 its.3 f in
        refused.meets (shelf_of gap.root gap.snap S.trusted.shelf) missed.edge missed.entry its.0 now l k its.2 its.3 f
        (λ m. not_both _ d (step.offers D.trusted (TargetsOffer role) its.0.bytes now _ _ (accepted m fresh room) o))
      where
        not_both : (T : Trusted) (d : Denial) → ◌≡◌ {A = Judged Trusted} (Ok T) (Err (Denied d)) → ⊥
        not_both T d e = cc

    -- what is accepted is put in
    pub puts : (U : Trusted) → offer D.trusted (TargetsOffer role) file.bytes now (Ok U) → U ≡ record D.trusted { shelf = with_row place_before D.trusted.shelf (role, missed.entry.version) file }
    puts U o =
        let p = grant.put D.trusted U gap.snap role file.bytes now live.snapshot o in
        let entry : p.0 ≡ missed.entry = some_one p.0 missed.entry (sym p.2 ∙ missed.listed) in
        let one : p.1 ≡ file = file-once shapes targets_form targets-tells p.1 file p.3 read p.4 in
        p.5 ∙ (ap (λ (e : MetaFile). record D.trusted { shelf = with_row place_before D.trusted.shelf (role, e.version) p.1 }) entry
        ∙ ap (λ (f : File Targets). record D.trusted { shelf = with_row place_before D.trusted.shelf (role, missed.entry.version) f }) one)

    pub not_same : offer D.trusted (TargetsOffer role) file.bytes now (Err Same) → ⊥
    not_same o =
        let p = grant.put_same D.trusted gap.snap role file.bytes now live.snapshot o in
        let entry : p.0 ≡ missed.entry = some_one p.0 missed.entry (sym p.1 ∙ missed.listed) in
        none_there (row_at D.trusted.shelf role missed.entry.version) absent (subst (λ (e : MetaFile). IsSome (row_at D.trusted.shelf role e.version)) entry p.2)

    module _ (names : Names) (level : Level S D path now names) where
      same_snap : gap.snap ≡ level.snap
      same_snap = some_one gap.snap level.snap (sym gap_snapped ∙ level.snapped)

      in_snap : entry_of level.snap role ≡ Some missed.entry
      in_snap = subst (λ (s : File Snapshot). entry_of s role ≡ Some missed.entry) same_snap missed.listed

      -- it is none of those that are held
      other_roles : AllByRecursion (λ y. role ≢ y) level.roles
      other_roles = each_weaker (HeldRole D.trusted.shelf level.snap) (λ y. role ≢ y) level.roles by level.roles_held
        where
          by : (y : Name) → HeldRole D.trusted.shelf level.snap y → role ≢ y
          by y one e =
              let same : one.entry ≡ missed.entry = some_one one.entry missed.entry (sym one.listed ∙ (ap (entry_of level.snap) (sym e) ∙ in_snap)) in
              none_there (row_at D.trusted.shelf role missed.entry.version) absent
              (subst (λ (m : MetaFile). IsSome (row_at D.trusted.shelf role m.version)) same (subst (λ (n : Name). IsSome (row_at D.trusted.shelf n one.entry.version)) (sym e) one.there))

      fewer_roles : length level.roles < 128
      fewer_roles = others_few D.trusted.shelf level.snap level.roles role missed.entry level.snap_read level.roles_distinct level.roles_held in_snap other_roles

      pub role_room : length D.trusted.shelf < most_held
      role_room = let r = level.room in let f = fewer_roles in omega (arith, r, f)

      -- so the names do not run out
      pub role_enough : length names ≡ 194 → ⊥
      role_enough e =
          let f = fewer_roles in
          let p = paths_few D.blobs level.paths level.paths_distinct level.paths_held in
          let n = level.few in
          omega (arith, e, f, p, n)

      -- and it was not asked for
      pub role_new : IsIn names (codes "metadata/" ++ dotted version role) → ⊥
      role_new asked = by (of_each (IsHeldName D.trusted.shelf D.blobs) names (codes "metadata/" ++ dotted version role) level.held asked)
        where
          by : IsHeldName D.trusted.shelf D.blobs (codes "metadata/" ++ dotted version role) → ⊥
          by (inl d) =
              let same = news.once version d.version role d.role small d.small (append_cancel_left (codes "metadata/") (dotted version role) (dotted d.version d.role) d.is) in
              none_there (row_at D.trusted.shelf role version) missed.absent
              (subst (λ (v : ℕ). IsSome (row_at D.trusted.shelf role v)) (sym same.0) (subst (λ (n : Name). IsSome (row_at D.trusted.shelf n d.version)) (sym same.1) d.there))
          by (inr f) = apart (dotted version role) f.text f.is

      still : (q : Name) (v : ℕ) → IsSome (row_at D.trusted.shelf q v) → IsSome (row_at (with_row place_before D.trusted.shelf (role, missed.entry.version) file) q v)
      still q v there = still_there place_before same_place one_place D.trusted.shelf (role, missed.entry.version) file (q, v) absent there

      here : IsSome (row_at (with_row place_before D.trusted.shelf (role, missed.entry.version) file) role missed.entry.version)
      here = now_there place_before same_place one_place D.trusted.shelf (role, missed.entry.version) file (role, missed.entry.version) absent (place_self (role, missed.entry.version) (role, missed.entry.version) refl refl)

      rows_part : (snap : File Snapshot) → S.trusted.snapshot ≡ Some snap → (r : Name) (entry : MetaFile) (f : File Targets) → entry_of snap r ≡ Some entry
          → row_at (with_row place_before D.trusted.shelf (role, missed.entry.version) file) r entry.version ≡ Some f → row_at S.trusted.shelf r entry.version ≡ Some f
      rows_part snap e r entry f l at = by (put_or_was place_before same_place one_place D.trusted.shelf (role, missed.entry.version) its.0 (r, entry.version) f absent at)
        where
          by : ((same_place (role, missed.entry.version) (r, entry.version) ≡ true) × (its.0 ≡ f)) ⊎ (value_at same_place D.trusted.shelf (r, entry.version) ≡ Some f)
              → row_at S.trusted.shelf r entry.version ≡ Some f
          by (inl (t, is)) =
              let s = same_role (role, missed.entry.version) (r, entry.version) t in
              subst (λ (n : Name). row_at S.trusted.shelf n entry.version ≡ Some f) s.0 (subst (λ (v : ℕ). row_at S.trusted.shelf role v ≡ Some f) s.1 (its.1 ∙ ap (λ (x : File Targets). Some x) is))
          by (inr was) = part.rows snap e r entry f l was

      -- with it the client is level after one name more
      pub role_level : IsState put_here → Level S put_here path now (names ++ (codes "metadata/" ++ dotted version role) ∷ [])
      role_level good = record {
        valid = good;
        part = record { root = part.root; timestamp = part.timestamp; snapshot = part.snapshot; rows = rows_part; blobs = part.blobs };
        snap = level.snap;
        snapped = level.snapped;
        snap_read = level.snap_read;
        roles = role ∷ level.roles;
        roles_distinct = (other_roles, level.roles_distinct);
        roles_held = (
          record { entry = missed.entry; listed = in_snap; there = here },
          each_weaker (HeldRole D.trusted.shelf level.snap) (HeldRole (with_row place_before D.trusted.shelf (role, missed.entry.version) file) level.snap) level.roles
              (λ y one. record { entry = one.entry; listed = one.listed; there = still y one.entry.version one.there }) level.roles_held,
        );
        paths = level.paths;
        paths_distinct = level.paths_distinct;
        paths_held = level.paths_held;
        few = (let l = length-append names ((codes "metadata/" ++ dotted version role) ∷ []) in let f = level.few in omega (arith, l, f));
        room = (let l = length_with_row place_before D.trusted.shelf (role, missed.entry.version) file in let r = level.room in omega (arith, l, r));
        held = each_more (IsHeldName (with_row place_before D.trusted.shelf (role, missed.entry.version) file) D.blobs) names (codes "metadata/" ++ dotted version role)
            (each_weaker (IsHeldName D.trusted.shelf D.blobs) (IsHeldName (with_row place_before D.trusted.shelf (role, missed.entry.version) file) D.blobs) names keeps level.held)
            (inl (record {
              version = version;
              role = role;
              small = small;
              is = refl;
              there = subst (λ (v : ℕ). IsSome (row_at (with_row place_before D.trusted.shelf (role, missed.entry.version) file) role v)) missed.at here;
            }));
      }
        where
          keeps : (n : Bytes) → IsHeldName D.trusted.shelf D.blobs n → IsHeldName (with_row place_before D.trusted.shelf (role, missed.entry.version) file) D.blobs n
          keeps n (inl d) = inl (record { version = d.version; role = d.role; small = d.small; is = d.is; there = still d.role d.version d.there })
          keeps n (inr f) = inr f

  -- ---- a file that is missed

  module _ (D : State) (valid : IsState D) (part : IsPart D S) (at digest : Bytes) (len : ℕ) (h : grants D path None now (Err (Denied (BlobMissing at digest len)))) where
    lack : MissesBlob D S path now at digest len
    lack = grant.blobs D S path at digest now len sure part h

    proper : IsProperListing lack.listing.listing
    proper = grant.proper S path now lack.listing sure lack.lists

    at_path : IsTargetPath at
    at_path = by lack.among
      where
        support : (o : Option LayoutReference) → IfSome o (λ r. AllByRecursion IsTargetPath (r.path ∷ r.links) × (length r.links ≤ 64)) → IsIn (support_paths o) at → IsTargetPath at
        support None k there = absurd there
        support (Some r) k there = of_each IsTargetPath (r.path ∷ r.links) at k.0 there

        by : IsIn (path ∷ support_paths lack.listing.listing.layout) at → IsTargetPath at
        by (inl e) = subst IsTargetPath e is_path
        by (inr there) = support lack.listing.listing.layout proper.2 there

    -- some name asks for it
    pub some_text : (text : Bytes) × IsNameOf text at (Some digest)
    some_text = grant.asked_by_some at digest at_path (subst IsDigest lack.its_digest (grant.proper S at now lack.own sure lack.lists_own).1)

    -- bytes that the server grants there are its blob
    pub is_blob : (b : Bytes) → grants S at (Some digest) now (Ok b) → (blob_at S.blobs digest ≡ Some b) × (length b ≡ len) × (sha256 b ≡ digest) × (length b ≤ blob_limit)
    is_blob b g =
        let k = grant.granted S at b (Some digest) now g in
        let own : k.0 ≡ lack.own = listed_same at k.0 lack.own k.1 lack.lists_own in
        let there : blob_at S.blobs digest ≡ Some b = subst (λ (d : Bytes). blob_at S.blobs d ≡ Some b) k.4 k.2 in
        let long : length b ≡ len = k.3 ∙ (ap (λ (l : Listed). l.listing.len) own ∙ lack.its_length) in
        let says = blob_says S.blobs digest b sure.blobs there in
        (there, long, says.0, says.1)

    -- where the server denies it, it does not grant the target
    pub not_served : (d : Denial) → grants S at (Some digest) now (Err (Denied d)) → (b : Bytes) → grants S path None now (Ok b) → ⊥
    not_served d k b g =
        let c = lack.granted b g in
        not_both c.0 d (grant.once S at (Some digest) now (Ok c.0) (Err (Denied d)) c.1 k)
      where
        not_both : (c : Bytes) (d : Denial) → ◌≡◌ {A = Judged Bytes} (Ok c) (Err (Denied d)) → ⊥
        not_both c d e = cc

    module _ (b : Bytes) (granted : grants S at (Some digest) now (Ok b)) where
      abbrev stored_here : State
      stored_here = record D { blobs = with_row before D.blobs digest b }

      known : (root : File Root) × (D.trusted.root ≡ Some root)
      known = let k = listed_root S.trusted path now lack.listing lack.lists in (k.0, part.root ∙ k.1)
        where
          listed_root : (T : Trusted) (path : Bytes) (now : ℕ) (at : Listed) → listed T path now (Ok at) → (root : File Root) × (T.root ≡ Some root)
          listed_root T path now _ (pass (holds is) (pass {a = root} k rest)) = (root, needed _ T.root root k)

      blob_room : length D.blobs < most_held
      blob_room =
          let few = blobs_few D.blobs S.blobs digest valid.in_order part.blobs (some_there (blob_at S.blobs digest) b (is_blob b granted).0) lack.absent in
          let most = sure.few_blobs in
          omega (arith, few, most)

      -- so it is stored
      pub stores : put_blob D digest b (Ok (record D { blobs = with_row before D.blobs digest b }))
      stores =
          let is = is_blob b granted in
          subst (λ (d : Bytes). put_blob D d b (Ok (record D { blobs = with_row before D.blobs d b }))) is.2
          (news.blobs D known.0 b known.1 is.3 (is_none _ (subst (λ (d : Bytes). blob_at D.blobs d ≡ None) (sym is.2) lack.absent)) blob_room)

      module _ (names : Names) (level : Level S D path now names) (text : Bytes) (asks : IsNameOf text at (Some digest)) where
        kept : (d : Bytes) → IsSome (blob_at D.blobs d) → IsSome (blob_at (with_row before D.blobs digest b) d)
        kept d there = still_there before bytes_eq same_blob D.blobs digest b d lack.absent there

        stored : IsSome (blob_at (with_row before D.blobs digest b) digest)
        stored = now_there before bytes_eq same_blob D.blobs digest b digest lack.absent ((bytes_eq-Decides digest digest).1 refl)

        other_paths : AllByRecursion (λ y. at ≢ y) level.paths
        other_paths = each_weaker (HeldPath S D.blobs path now) (λ y. at ≢ y) level.paths by level.paths_held
          where
            by : (y : Bytes) → HeldPath S D.blobs path now y → at ≢ y
            by y one e =
                let own : one.own ≡ lack.own = listed_same at one.own lack.own (subst (λ (p : Bytes). listed S.trusted p now (Ok one.own)) (sym e) one.lists_own) lack.lists_own in
                none_there (blob_at D.blobs digest) lack.absent (subst (λ (d : Bytes). IsSome (blob_at D.blobs d)) (ap (λ (l : Listed). l.listing.digest) own ∙ lack.its_digest) one.there)

        blobs_part : (d c : Bytes) → blob_at (with_row before D.blobs digest b) d ≡ Some c → blob_at S.blobs d ≡ Some c
        blobs_part d c at = by (put_or_was before bytes_eq same_blob D.blobs digest b d c lack.absent at)
          where
            by : ((bytes_eq digest d ≡ true) × (b ≡ c)) ⊎ (blob_at D.blobs d ≡ Some c) → blob_at S.blobs d ≡ Some c
            by (inl (t, is)) = subst (λ (k : Bytes). blob_at S.blobs k ≡ Some c) ((bytes_eq-Decides digest d).0 t) ((is_blob b granted).0 ∙ ap (λ (x : Bytes). Some x) is)
            by (inr was) = part.blobs d c was

        pub blob_level : IsState stored_here → Level S stored_here path now (names ++ (codes "targets/" ++ text) ∷ [])
        blob_level good = record {
          valid = good;
          part = record { root = part.root; timestamp = part.timestamp; snapshot = part.snapshot; rows = part.rows; blobs = blobs_part };
          snap = level.snap;
          snapped = level.snapped;
          snap_read = level.snap_read;
          roles = level.roles;
          roles_distinct = level.roles_distinct;
          roles_held = level.roles_held;
          paths = at ∷ level.paths;
          paths_distinct = (other_paths, level.paths_distinct);
          paths_held = (
            record {
              listing = lack.listing;
              lists = lack.lists;
              among = lack.among;
              own = lack.own;
              lists_own = lack.lists_own;
              there = subst (λ (d : Bytes). IsSome (blob_at (with_row before D.blobs digest b) d)) (sym lack.its_digest) stored;
            },
            each_weaker (HeldPath S D.blobs path now) (HeldPath S (with_row before D.blobs digest b) path now) level.paths
                (λ y one. record { listing = one.listing; lists = one.lists; among = one.among; own = one.own; lists_own = one.lists_own; there = kept one.own.listing.digest one.there }) level.paths_held,
          );
          few = (let l = length-append names ((codes "targets/" ++ text) ∷ []) in let f = level.few in omega (arith, l, f));
          room = level.room;
          held = each_more (IsHeldName D.trusted.shelf (with_row before D.blobs digest b)) names (codes "targets/" ++ text)
              (each_weaker (IsHeldName D.trusted.shelf D.blobs) (IsHeldName D.trusted.shelf (with_row before D.blobs digest b)) names keeps level.held)
              (inr (record { text = text; path = at; digest = digest; is = refl; asks = asks; there = stored }));
        }
          where
            keeps : (n : Bytes) → IsHeldName D.trusted.shelf D.blobs n → IsHeldName D.trusted.shelf (with_row before D.blobs digest b) n
            keeps n (inl d) = inl d
            keeps n (inr f) = inr (record { text = f.text; path = f.path; digest = f.digest; is = f.is; asks = f.asks; there = kept f.digest f.there })

    module _ (names : Names) (level : Level S D path now names) where
      more_paths : length level.paths < 66
      more_paths =
          let size = needed_few lack.listing.listing.layout proper.2 in
          let few = fewer (at ∷ level.paths) (path ∷ support_paths lack.listing.listing.layout) (new, level.paths_distinct) inside in
          omega (arith, size, few)
        where
          apart_from : (y : Bytes) → HeldPath S D.blobs path now y → at ≢ y
          apart_from y one e =
              let own : one.own ≡ lack.own = listed_same at one.own lack.own (subst (λ (p : Bytes). listed S.trusted p now (Ok one.own)) (sym e) one.lists_own) lack.lists_own in
              none_there (blob_at D.blobs digest) lack.absent (subst (λ (d : Bytes). IsSome (blob_at D.blobs d)) (ap (λ (l : Listed). l.listing.digest) own ∙ lack.its_digest) one.there)

          new : AllByRecursion (λ y. at ≢ y) level.paths
          new = each_weaker (HeldPath S D.blobs path now) (λ y. at ≢ y) level.paths apart_from level.paths_held

          inside : (x : Bytes) → IsIn (at ∷ level.paths) x → IsIn (path ∷ support_paths lack.listing.listing.layout) x
          inside x (inl e) = subst (λ (y : Bytes). IsIn (path ∷ support_paths lack.listing.listing.layout) y) e lack.among
          inside x (inr k) =
              let one = of_each (HeldPath S D.blobs path now) level.paths x level.paths_held k in
              subst (λ (l : Listed). IsIn (path ∷ support_paths l.listing.layout) x) (listed_same path one.listing lack.listing one.lists lack.lists) one.among

      pub blob_enough : length names ≡ 194 → ⊥
      blob_enough e =
          let f = roles_few D.trusted.shelf level.snap level.roles level.snap_read level.roles_distinct level.roles_held in
          let p = more_paths in
          let n = level.few in
          omega (arith, e, f, p, n)

      pub blob_new : (text : Bytes) → IsNameOf text at (Some digest) → IsIn names (codes "targets/" ++ text) → ⊥
      blob_new text asks asked = by (of_each (IsHeldName D.trusted.shelf D.blobs) names (codes "targets/" ++ text) level.held asked)
        where
          some_digest : (d e : Bytes) → Some d ≡ Some e → d ≡ e
          some_digest d e k = cc

          by : IsHeldName D.trusted.shelf D.blobs (codes "targets/" ++ text) → ⊥
          by (inl d) = apart (dotted d.version d.role) text (sym d.is)
          by (inr f) =
              let same = append_cancel_left (codes "targets/") text f.text f.is in
              let one = grant.asks_once text at f.path (Some digest) (Some f.digest) asks (subst (λ (t : Bytes). IsNameOf t f.path (Some f.digest)) (sym same) f.asks) in
              none_there (blob_at D.blobs digest) lack.absent (subst (λ (d : Bytes). IsSome (blob_at D.blobs d)) (sym (some_digest digest f.digest one.1)) f.there)
