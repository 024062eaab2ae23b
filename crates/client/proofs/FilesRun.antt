-- What is taken from an honest source is files of its state.
use Rattle.std.proofs.Common.{◌≡◌, ℕ, Bool, [], ◌++◌, Option, Some, Result, Ok, refl, sym, subst}
use Rattle.std.specs.Prelude.{IfSome, codes, length}
use Rattle.metadata.specs.File.{Bytes, Names}
use Rattle.denials.specs.Orders as orders
use Rattle.path_patterns.specs.Names.{IsNameOf, dotted}
use Rattle.trust_rules.specs.State.{State, blob_at}
use Rattle.trust_rules.specs.Offers.{Offer, RootOffer, SnapshotOffer, TargetsOffer, TimestampOffer}
use Rattle.trust_rules.specs.Grants.{Listed, grants, listed}
use Rattle.trust_rules.specs.Runs.{Command}
use Rattle.fetch.specs.Source.{Gives}
use Rattle.client.specs.Agreement.{Brings, BringsAndFetches, IsFileOf, IsPlaceOf, updated, denied}
use Rattle.client.specs.Agreement as agreement
use Rattle.client.specs.Answering.{IsAnswer, IsHeldAs, IsHonest, gives}
use Rattle.client.specs.Session as session
use Rattle.client.specs.Session.{Fetches, Makes, Takes, TakesRoots, TakesSnapshot, TakesTimestamp, Updates}
use Rattle.client.specs.Taken.{RunsOn}
use Rattle.client.specs.Views.{Fault}
use Rattle.client.specs.Wanted.{Misses, Wanted, blob, document, role, wanted_blob, wanted_root, wanted_timestamp}
use Rattle.client.proofs.Runs.{goes, runs_then, stays}

-- what the machine's law says of bytes that are granted
abbrev pub Granted : Type 0
Granted = (S : State) (path b : Bytes) (asked : Option Bytes) (now : ℕ) → grants S path asked now (Ok b)
    → (at : Listed) × listed S.trusted path now (Ok at) × (blob_at S.blobs at.listing.digest ≡ Some b) × (length b ≡ at.listing.len) × IfSome asked (λ digest. at.listing.digest ≡ digest)

answer_is : (limit : ℕ) (Has : Option Bytes → Type 0) (b : Bytes) → IsAnswer limit Has (Ok (Some b)) → Has (Some b)
answer_is limit Has b (gives h k) = h

module _ (law : Granted) {Src : Type 0} (from : Gives Src) (Is : Src → Type 0) (S : State) (now : ℕ) (honest : IsHonest from Is S now) where
  -- whatever comes under the name is a file of the state
  abbrev pub IsFile : Wanted → Type 0
  IsFile w = (s t : Src) (b : Bytes) → Is s → from s w.name w.limit (Ok (Some b)) t → IsFileOf S (w.command b)

  pub document_file : (file : Bytes) (offer : Offer) → IsPlaceOf offer file → IsFile (document file offer)
  document_file file offer place s t b is g =
      let h = answer_is _ (IsHeldAs S now (codes "metadata/" ++ file)) b (honest.answers s t _ _ (Ok (Some b)) is g) in
      (file, place, sym (h.metadata file refl))

  blob_file : (text path digest : Bytes) (len : ℕ) → IsNameOf text path (Some digest) → IsFile (wanted_blob text digest len)
  blob_file text path digest len asks s t b is g =
      let h = answer_is _ (IsHeldAs S now (codes "targets/" ++ text)) b (honest.answers s t _ _ (Ok (Some b)) is g) in
      let granted = law S path b (Some digest) now (h.target text path (Some digest) refl asks) in
      subst (λ (d : Bytes). blob_at S.blobs d ≡ Some b) granted.4 granted.2

  pub missing_file : (d : orders.Denial) (w : Wanted) → Misses d w → IsFile w
  missing_file _ _ (role {role = r} {version = v} is) = document_file (dotted v r) (TargetsOffer r) (v, refl)
  missing_file _ _ (blob {text = text} {path = path} {digest = digest} {len = len} asks) = blob_file text path digest len asks

  made : (command : Command) (C D : State) (r : Result (Unit {0}) Fault) → IsFileOf S command → Makes now command C D r → RunsOn (IsFileOf S) now C D
  made command C D _ is (session.accepted reply h ok) = goes (IsFileOf S) now C D command reply is h
  made command C D _ is (session.denied index h) = goes (IsFileOf S) now C D command _ is h
  made command C _ _ is (session.unmade f) = stays (IsFileOf S) now C

  pub takes_is : (w : Wanted) (s t : Src) (C D : State) (r : Result Bool Fault) → Is s → Takes from now w s C t D r → Is t
  takes_is w s t C D _ is (session.taken {b = b} g short m) = honest.stays s t _ _ _ is g
  takes_is w s t C D _ is (session.rejected {b = b} g short m) = honest.stays s t _ _ _ is g
  takes_is w s t C _ _ is (session.absent g) = honest.stays s t _ _ _ is g
  takes_is w s t C _ _ is (session.overlong g long) = honest.stays s t _ _ _ is g
  takes_is w s t C _ _ is (session.failed g) = honest.stays s t _ _ _ is g
  takes_is w s _ C _ _ is session.unasked = is

  takes_run : (w : Wanted) (s t : Src) (C D : State) (r : Result Bool Fault) → IsFile w → Is s → Takes from now w s C t D r → RunsOn (IsFileOf S) now C D
  takes_run w s t C D _ file is (session.taken {b = b} g short m) = made (w.command b) C D _ (file s t b is g) m
  takes_run w s t C D _ file is (session.rejected {b = b} g short m) = made (w.command b) C D _ (file s t b is g) m
  takes_run w s t C _ _ file is (session.absent g) = stays (IsFileOf S) now C
  takes_run w s t C _ _ file is (session.overlong g long) = stays (IsFileOf S) now C
  takes_run w s t C _ _ file is (session.failed g) = stays (IsFileOf S) now C
  takes_run w s _ C _ _ file is session.unasked = stays (IsFileOf S) now C

  pub root_file : (v : ℕ) → IsFile (wanted_root v)
  root_file v = document_file (dotted v (codes "root")) RootOffer (v, refl)

  roots_run : (n : ℕ) (s t : Src) (C D : State) (r : Result (Unit {0}) Fault) → Is s → TakesRoots from now n s C t D r → RunsOn (IsFileOf S) now C D × Is t
  roots_run _ s _ C _ _ is session.enough = (stays (IsFileOf S) now C, is)
  roots_run _ s _ C _ _ is (session.rootless e) = (stays (IsFileOf S) now C, is)
  roots_run _ s _ C _ _ is (session.highest e k) = (stays (IsFileOf S) now C, is)
  roots_run _ s t C D _ is (session.newest e k h) = (takes_run _ s t C D _ (root_file _) is h, takes_is _ s t C D _ is h)
  roots_run _ s t C D _ is (session.stops e k h) = (takes_run _ s t C D _ (root_file _) is h, takes_is _ s t C D _ is h)
  roots_run _ s u C E _ is (session.further {n = n} {t = t} {D = D} {r = r} e k h more) =
      let rest = roots_run n t u D E r (takes_is _ s t C D _ is h) more in
      (runs_then (IsFileOf S) now C D E (takes_run _ s t C D _ (root_file _) is h) rest.0, rest.1)

  snapshot_runs : (s t : Src) (C D : State) (r : Result (Unit {0}) Fault) → Is s → TakesSnapshot from now s C t D r → RunsOn (IsFileOf S) now C D × Is t
  snapshot_runs s _ C _ _ is (session.held e) = (stays (IsFileOf S) now C, is)
  snapshot_runs s t C D _ is (session.due v e h) = (takes_run _ s t C D _ (document_file (dotted v (codes "snapshot")) SnapshotOffer (v, refl)) is h, takes_is _ s t C D _ is h)
  snapshot_runs s t C D _ is (session.fails v e h) = (takes_run _ s t C D _ (document_file (dotted v (codes "snapshot")) SnapshotOffer (v, refl)) is h, takes_is _ s t C D _ is h)

  pub stamp_file : IsFile wanted_timestamp
  stamp_file = document_file (codes "timestamp.json") TimestampOffer refl

  timestamp_runs : (s t : Src) (C D : State) (r : Result (Unit {0}) Fault) → Is s → TakesTimestamp from now s C t D r → RunsOn (IsFileOf S) now C D × Is t
  timestamp_runs s t C D _ is (session.none h) = (takes_run _ s t C D _ stamp_file is h, takes_is _ s t C D _ is h)
  timestamp_runs s t C D _ is (session.fails h) = (takes_run _ s t C D _ stamp_file is h, takes_is _ s t C D _ is h)
  timestamp_runs s u C E _ is (session.then {t = t} {D = D} {r = r} h more) =
      let rest = snapshot_runs t u D E r (takes_is _ s t C D _ is h) more in
      (runs_then (IsFileOf S) now C D E (takes_run _ s t C D _ stamp_file is h) rest.0, rest.1)

  update_runs : (s t : Src) (C D : State) (r : Result (Unit {0}) Fault) → Is s → Updates from now s C t D r → RunsOn (IsFileOf S) now C D × Is t
  update_runs s t C D _ is (session.fails h) = roots_run _ s t C D _ is h
  update_runs s u C E _ is (session.then {t = t} {D = D} {r = r} h more) =
      let first = roots_run _ s t C D _ is h in
      let rest = timestamp_runs t u D E r first.1 more in
      (runs_then (IsFileOf S) now C D E first.0 rest.0, rest.1)

  pub brings_run : (s t : Src) (C D : State) (r : Result (Unit {0}) Fault) → Is s → Brings from now s C t D r → RunsOn (IsFileOf S) now C D × Is t
  brings_run s t C D _ is (agreement.updated h) = update_runs s t C D _ is h
  brings_run s t C D _ is (agreement.denied h) = update_runs s t C D _ is h
  brings_run s t C D _ is (agreement.fails h other) = update_runs s t C D _ is h

  fetch_runs : (trusted : Type 0) (path : Bytes) (names : Names) (s t : Src) (C D : State) (r : Result Bytes Fault) → Is s → Fetches trusted from now path names s C t D r → RunsOn (IsFileOf S) now C D
  fetch_runs trusted path names s _ C _ _ is (session.ends (session.granted g)) = stays (IsFileOf S) now C
  fetch_runs trusted path names s _ C _ _ is (session.ends (session.denied g none_missing)) = stays (IsFileOf S) now C
  fetch_runs trusted path names s _ C _ _ is (session.ends (session.again g m e)) = stays (IsFileOf S) now C
  fetch_runs trusted path names s _ C _ _ is (session.ends (session.enough g m e)) = stays (IsFileOf S) now C
  fetch_runs trusted path names s t C D _ is (session.ends (session.absent {d = d} {w = w} g m e l h)) = takes_run w s t C D _ (missing_file d w m) is h
  fetch_runs trusted path names s t C D _ is (session.ends (session.fails {d = d} {w = w} g m e l h)) = takes_run w s t C D _ (missing_file d w m) is h
  fetch_runs trusted path names s u C E _ is (session.further {t = t} {D = D} {d = d} {w = w} {r = r} g m e l h more) =
      runs_then (IsFileOf S) now C D E (takes_run w s t C D _ (missing_file d w m) is h) (fetch_runs trusted path _ t u D E r (takes_is w s t C D _ is h) more)
  fetch_runs trusted path names s _ C _ _ is (session.ends (session.unanswered f)) = stays (IsFileOf S) now C

  -- the state that a whole call leaves is that of a run of files of the server
  pub files_run : (trusted : Type 0) (path : Bytes) (s t : Src) (C D : State) (r : Result Bytes Fault) → Is s → BringsAndFetches trusted from now path s C t D r → RunsOn (IsFileOf S) now C D
  files_run trusted path s u C E r is (agreement.then {t = t} {D = D} h more) =
      let first = brings_run s t C D _ is h in
      runs_then (IsFileOf S) now C D E first.0 (fetch_runs trusted path [] t u D E r first.1 more)
  files_run trusted path s t C D _ is (agreement.fails h) = (brings_run s t C D _ is h).0
