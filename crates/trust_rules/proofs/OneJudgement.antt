-- Each command has one judgement, and one outcome.
use Rattle.std.proofs.Common.{ℕ, suc, List, [], ◌∷◌, Some, None, Option, Ok, Err, refl, sym, ◌∙◌, ap}
use Rattle.keys_roles.specs.Plain.{RoleRule, Table}
use Rattle.document_parts.specs.Documents.{Root, Timestamp, Snapshot, Targets, MetaFile, Listing, Layout, LayoutReference}
use Rattle.metadata.specs.File.{Bytes, Name, File, Form, link_form}
use Rattle.document_parts.specs.Links.{Link}
use Rattle.metadata.specs.Shaped.{shaped}
use Rattle.layouts.specs.Layouts.{layout_holds}
use Rattle.denials.specs.Orders.{Order, Judged, Denied, Same, Plain, RoleMissing, BlobMissing}
use Rattle.delegations.specs.Delegation.{Edge}
use Rattle.delegations.specs.Search.{Shelf, Found, visit, find_in, found_or, listing_of, search, shelf_of}
use Rattle.trust_rules.specs.State.{Trusted, State}
use Rattle.trust_rules.specs.Offers.{kept, rotated, after_root, live_timestamp, live_snapshot, after_timestamp, after_snapshot, named_snapshot, named_targets, placed, Offer, RootOffer, TimestampOffer, SnapshotOffer, TargetsOffer, init, offer_root, offer_timestamp, offer_snapshot, offer_targets, offer, prune, put_blob, Batched, BatchOrder, Ended, coherent, incoherent, going_on, batch_from, batch}
use Rattle.trust_rules.specs.Grants.{listed, grants, blob_of, files_hold, layout_answer, read_as, reference_allows, searched, support, support_answer, supporting}
use Rattle.trust_rules.specs.Runs.{Outcome, Command, Init, Batch, OfferOne, PutBlob, Prune, Metadata, Target, Leads, leads, Steps}
use Rattle.denials.proofs.DefiniteOrders.{Definite, line, check-definite, same_if-definite, give-definite, stop-definite, need_or-definite, judged-definite, each-definite}
use Rattle.trust_rules.proofs.ShapedOnce.{Shapes, Tells, shaped-definite, root-tells, timestamp-tells, snapshot-tells, targets-tells, layout-tells, link-tells}

after_root-definite : (T : Trusted) (old new : File Root) → Definite (after_root T old new)
after_root-definite T old new _ _ (kept p) (kept q) = refl
after_root-definite T old new _ _ (kept p) (rotated q) = absurd (q p)
after_root-definite T old new _ _ (rotated p) (kept q) = absurd (p q)
after_root-definite T old new _ _ (rotated p) (rotated q) = refl

live_timestamp-definite : (t : Option (File Timestamp)) (root : File Root) (now : ℕ) → Definite (live_timestamp t root now)
live_timestamp-definite t root now =
    line (check-definite _ _) (λ _.
    line (need_or-definite _ t) (λ stamp.
    line (check-definite _ _) (λ _. give-definite stamp)))

live_snapshot-definite : (t : Option (File Timestamp)) (s : Option (File Snapshot)) (root : File Root) (now : ℕ) → Definite (live_snapshot t s root now)
live_snapshot-definite t s root now =
    line (live_timestamp-definite t root now) (λ stamp.
    line (need_or-definite _ s) (λ snap.
    line (check-definite _ _) (λ _.
    line (check-definite _ _) (λ _. give-definite snap))))

after_timestamp-definite : (t : Option (File Timestamp)) (new : File Timestamp) → Definite (after_timestamp t new)
after_timestamp-definite None new = give-definite tt
after_timestamp-definite (Some old) new =
    line (check-definite _ _) (λ _.
    line (same_if-definite _) (λ _. check-definite _ _))

after_snapshot-definite : (s : Option (File Snapshot)) (new : File Snapshot) → Definite (after_snapshot s new)
after_snapshot-definite None new = give-definite tt
after_snapshot-definite (Some old) new =
    line (check-definite _ _) (λ _. check-definite _ _)

named_snapshot-definite : (stamp : File Timestamp) (root : File Root) (new : File Snapshot) → Definite (named_snapshot stamp root new)
named_snapshot-definite stamp root new =
    line (check-definite _ _) (λ _.
    line (check-definite _ _) (λ _.
    line (check-definite _ _) (λ _. check-definite _ _)))

named_targets-definite : (entry : MetaFile) (new : File Targets) → Definite (named_targets entry new)
named_targets-definite entry new =
    line (check-definite _ _) (λ _.
    line (check-definite _ _) (λ _. check-definite _ _))

placed-definite : (T : Trusted) (role : Name) (version : ℕ) (new : File Targets) → Definite (placed T role version new)
placed-definite T role version new =
    line (same_if-definite _) (λ _.
    line (check-definite _ _) (λ _.
    line (check-definite _ _) (λ _. give-definite _)))

pub blob-definite : (S : State) (digest b : Bytes) → Definite (put_blob S digest b)
blob-definite S digest b =
    line (need_or-definite _ S.trusted.root) (λ root.
    line (check-definite _ _) (λ _.
    line (check-definite _ _) (λ _.
    line (same_if-definite _) (λ _.
    line (check-definite _ _) (λ _. give-definite _)))))

pub prune-definite : (S : State) → Definite (prune S)
prune-definite S = line (check-definite _ _) (λ _. give-definite _)

-- ---- searches

visit-definite : (V : Shelf) (e : Edge) (now : ℕ) → Definite (visit V e now)
visit-definite V e now =
    line (need_or-definite _ _) (λ entry.
    line (need_or-definite _ _) (λ file.
    line (check-definite _ _) (λ _.
    line (check-definite _ _) (λ _.
    line (check-definite _ _) (λ _.
    line (check-definite _ _) (λ _. give-definite file))))))

found_or-definite : (V : Shelf) (role : Name) (o : Option Listing) (rest : Order Found) → Definite rest → Definite (found_or V role o rest)
found_or-definite V role (Some l) rest h = give-definite _
found_or-definite V role None rest h = h

find-definite : (V : Shelf) (es : List Edge) (path : Bytes) (now : ℕ) (none : Order Found) → Definite none → Definite (find_in V es path now none)
find-definite V [] path now none h = h
find-definite V (e ∷ es) path now none h =
    line (visit-definite V e now) (λ file. found_or-definite V e.role (listing_of file.body path) _ (find-definite V es path now none h))

pub search-definite : (V : Shelf) (path : Bytes) (now : ℕ) → Definite (search V path now)
search-definite V path now = find-definite V _ path now _ (stop-definite _)

pub searched-definite : (root : Root) (V : Shelf) (path : Bytes) (now : ℕ) → Definite (searched root V path now)
searched-definite root V path now = line (search-definite V path now) (λ found. line (check-definite _ _) (λ _. give-definite found))

pub blob_of-definite : (S : State) (path : Bytes) (l : Listing) → Definite (blob_of S path l)
blob_of-definite S path l =
    line (need_or-definite _ _) (λ blob. line (check-definite _ _) (λ _. give-definite blob))

pub listed-definite : (T : Trusted) (path : Bytes) (now : ℕ) → Definite (listed T path now)
listed-definite T path now =
    line (check-definite _ _) (λ _.
    line (need_or-definite _ T.root) (λ root.
    line (live_snapshot-definite T.timestamp T.snapshot root now) (λ snap.
    line (searched-definite root.body (shelf_of root snap T.shelf) path now) (λ found. give-definite _))))

-- ---- files that a layout needs

support_answer-definite : {A : Type 0} (j : Judged A) → Definite (support_answer j)
support_answer-definite (Ok a) = give-definite a
support_answer-definite (Err Same) = stop-definite _
support_answer-definite (Err (Denied (Plain n))) = stop-definite _
support_answer-definite (Err (Denied (RoleMissing role version))) = stop-definite _
support_answer-definite (Err (Denied (BlobMissing path digest len))) = stop-definite _

supporting-definite : {A : Type 0} (m : Order A) → Definite m → Definite (supporting m)
supporting-definite m one = judged-definite m support_answer one support_answer-definite

pub support-definite : (S : State) (root : Root) (V : Shelf) (now : ℕ) (path : Bytes) → Definite (support S root V now path)
support-definite S root V now path =
    line (supporting-definite _ (searched-definite root V path now)) (λ found.
    line (supporting-definite _ (blob_of-definite S path found.listing)) (λ blob.
    line (check-definite _ _) (λ _. give-definite blob)))

layout_answer-definite : {A : Type 0} (j : Judged A) → Definite (layout_answer j)
layout_answer-definite (Ok a) = give-definite a
layout_answer-definite (Err s) = stop-definite _

-- a layout and its links have one judgement
abbrev pub OneVerdict : Type 0
OneVerdict =
    (layout : File Layout) (owners : RoleRule) (table : Table) (links : List (File Link)) (step : Name) (product digest : Bytes) (now : ℕ)
    → Definite (layout_holds layout owners table links step product digest now)

module _ (law : Shapes) (verdict : OneVerdict) where
  read-definite : {A : Type 0} (form : Form A) → Tells form → (b : Bytes) → Definite (read_as form b)
  read-definite form tells b = judged-definite (shaped form b) layout_answer (shaped-definite law form tells b) layout_answer-definite

  files-definite : (l : Listing) (reference : LayoutReference) (now : ℕ) (b : Bytes) (bs : List Bytes) → Definite (files_hold l reference now b bs)
  files-definite l reference now b bs =
      line (check-definite _ _) (λ _.
      line (read-definite _ layout-tells b) (λ layout.
      line (each-definite (read_as link_form) bs (read-definite _ link-tells)) (λ links.
      verdict layout reference.owners reference.keys links reference.step reference.product l.digest now)))

  reference-definite : (S : State) (root : Root) (V : Shelf) (now : ℕ) (l : Listing) (reference : Option LayoutReference) → Definite (reference_allows S root V now l reference)
  reference-definite S root V now l None = give-definite tt
  reference-definite S root V now l (Some reference) =
      line (support-definite S root V now reference.path) (λ layout_bytes.
      line (each-definite (support S root V now) reference.links (support-definite S root V now)) (λ link_bytes.
      files-definite l reference now layout_bytes link_bytes))

  pub grants-definite : (S : State) (path : Bytes) (asked : Option Bytes) (now : ℕ) → Definite (grants S path asked now)
  grants-definite S path asked now =
      line (listed-definite S.trusted path now) (λ at.
      line (blob_of-definite S path at.listing) (λ blob.
      line (reference-definite S at.root at.shelf now at.listing at.listing.layout) (λ _.
      line (check-definite _ _) (λ _. give-definite blob))))

-- ---- documents

module _ (law : Shapes) where
  pub init-definite : (S : State) (b : Bytes) → Definite (init S b)
  init-definite S b =
      line (check-definite _ _) (λ _.
      line (shaped-definite law _ root-tells b) (λ new.
      line (check-definite _ _) (λ _. give-definite _)))

  root-definite : (T : Trusted) (b : Bytes) → Definite (offer_root T b)
  root-definite T b =
      line (need_or-definite _ T.root) (λ old.
      line (same_if-definite _) (λ _.
      line (shaped-definite law _ root-tells b) (λ new.
      line (check-definite _ _) (λ _.
      line (check-definite _ _) (λ _.
      line (check-definite _ _) (λ _.
      line (check-definite _ _) (λ _.
      line (check-definite _ _) (λ _. after_root-definite T old new))))))))

  timestamp-definite : (T : Trusted) (b : Bytes) (now : ℕ) → Definite (offer_timestamp T b now)
  timestamp-definite T b now =
      line (need_or-definite _ T.root) (λ root.
      line (shaped-definite law _ timestamp-tells b) (λ new.
      line (check-definite _ _) (λ _.
      line (check-definite _ _) (λ _.
      line (after_timestamp-definite T.timestamp new) (λ _.
      line (check-definite _ _) (λ _. give-definite _))))))

  snapshot-definite : (T : Trusted) (b : Bytes) (now : ℕ) → Definite (offer_snapshot T b now)
  snapshot-definite T b now =
      line (need_or-definite _ T.root) (λ root.
      line (shaped-definite law _ snapshot-tells b) (λ new.
      line (live_timestamp-definite T.timestamp root now) (λ stamp.
      line (named_snapshot-definite stamp root new) (λ _.
      line (after_snapshot-definite T.snapshot new) (λ _.
      line (check-definite _ _) (λ _.
      line (same_if-definite _) (λ _. give-definite _)))))))

  targets-definite : (T : Trusted) (role : Name) (b : Bytes) (now : ℕ) → Definite (offer_targets T role b now)
  targets-definite T role b now =
      line (need_or-definite _ T.root) (λ root.
      line (shaped-definite law _ targets-tells b) (λ new.
      line (live_snapshot-definite T.timestamp T.snapshot root now) (λ snap.
      line (need_or-definite _ _) (λ entry.
      line (named_targets-definite entry new) (λ _.
      line (check-definite _ _) (λ _.
      line (check-definite _ _) (λ _. placed-definite T role entry.version new)))))))

  pub offer-definite : (T : Trusted) (o : Offer) (b : Bytes) (now : ℕ) → Definite (offer T o b now)
  offer-definite T RootOffer b now = root-definite T b
  offer-definite T TimestampOffer b now = timestamp-definite T b now
  offer-definite T SnapshotOffer b now = snapshot-definite T b now
  offer-definite T (TargetsOffer role) b now = targets-definite T role b now

-- ---- batches

ended-definite : (B : Batched) (i : ℕ) → Definite (Ended B i)
ended-definite B i _ _ (coherent p) (coherent q) = refl
ended-definite B i _ _ (coherent p) (incoherent q) = absurd (q p)
ended-definite B i _ _ (incoherent p) (coherent q) = absurd (p q)
ended-definite B i _ _ (incoherent p) (incoherent q) = refl

going-definite : (B : Batched) (i : ℕ) (go : Batched → BatchOrder) → ((C : Batched) → Definite (go C)) → (j : Judged Trusted) → Definite (going_on B i go j)
going-definite B i go each (Ok T) = each _
going-definite B i go each (Err Same) = each _
going-definite B i go each (Err (Denied d)) = λ r q h k. h ∙ sym k

leads-definite : {A : Type 0} (m : A → Type 0) (out : A → Outcome) → Definite m → Definite (Leads m out)
leads-definite m out one _ _ (leads j h) (leads i k) = ap out (one j i h k)

module _ (law : Shapes) where
  batch-from-definite : (B : Batched) (i : ℕ) (os : List (Offer × Bytes)) (now : ℕ) → Definite (batch_from B i os now)
  batch-from-definite B i [] now = ended-definite B i
  batch-from-definite B i (o ∷ os) now =
      judged-definite (offer B.trusted o.0 o.1 now) _ (offer-definite law B.trusted o.0 o.1 now)
      (going-definite B i _ (λ C. batch-from-definite C (suc i) os now))

  pub batch-definite : (T : Trusted) (os : List (Offer × Bytes)) (now : ℕ) → Definite (batch T os now)
  batch-definite T os now = batch-from-definite _ 0 os now

module _ (law : Shapes) (verdict : OneVerdict) where
  -- each command has one outcome
  pub steps-definite : (S : State) (c : Command) (now : ℕ) → Definite (Steps S c now)
  steps-definite S (Init b) now = leads-definite _ _ (init-definite law S b)
  steps-definite S (Batch os) now = leads-definite _ _ (batch-definite law S.trusted os now)
  steps-definite S (OfferOne o b) now = leads-definite _ _ (offer-definite law S.trusted o b now)
  steps-definite S (PutBlob digest b) now = leads-definite _ _ (blob-definite S digest b)
  steps-definite S Prune now = leads-definite _ _ (prune-definite S)
  steps-definite S (Metadata name) now = λ r q h k. h ∙ sym k
  steps-definite S (Target path asked) now = leads-definite _ _ (grants-definite law verdict S path asked now)
