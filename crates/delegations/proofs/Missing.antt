-- The document that a search misses is listed and not on the shelf, and its edge vouches for each document that meets it.
use Rattle.std.proofs.Common.{◌≡◌, ℕ, zero, suc, ◌+◌, ◌<◌, Bool, true, false, cond, List, [], ◌∷◌, ◌++◌, length, map, take, Option, Some, None, Ok, Err, refl, sym, ap, ◌∙◌, subst, slice_get, filter_map, option_map, bytes_eq}
use Rattle.std.specs.List.{AllByRecursion}
use Rattle.keys_roles.specs.Plain.{Table, look_up}
use Rattle.document_parts.specs.Covers.{covers}
use Rattle.document_parts.specs.Documents.{Targets, MetaFile, Delegation, Delegations}
use Rattle.metadata.specs.File.{Bytes, Name, Names, File, has_name}
use Rattle.denials.specs.Numbers as no
use Rattle.denials.specs.Orders.{Denial, Judged, Stop, Denied, Plain, RoleMissing, pass, decide, fails, given, stopped, need_or, check}
use Rattle.delegations.specs.Delegation.{Edge, Graph, hops, hops_in, leads, chain_end}
use Rattle.delegations.specs.Missed.{IsMissed}
use Rattle.delegations.specs.Rows.{row_at, named_row}
use Rattle.delegations.specs.Search.{Shelf, Found, Good, MeetsEdge, Vouched, edge_of, hops_of, whole, visit, search, visited, most_visits}
use Rattle.delegations.specs.Verdicts.{PassesBy}
use Rattle.delegations.specs.steps.Course.{here}
use Rattle.delegations.proofs.Complete.{has_hop}
use Rattle.delegations.proofs.Ended.{Ends, Led, denies, no_visit, no_room, finds, search_ended, led_here, last_number}
use Rattle.delegations.proofs.Grows.{is_with, denied_too}
use Rattle.delegations.proofs.Walk.{by_test}

-- ---- the visit that misses the document

-- where a line ends the case
no_value : {A : Type 0} (d : Denial) (o : Option A) (s : Stop) → need_or d o (Err s) → (s ≡ Denied d) × (o ≡ None)
no_value d None _ stopped = (refl, refl)
no_value d (Some b) s h = elim h [ ]

failed : (n : ℕ) (P : Type 0) (s : Stop) → check n P (Err s) → s ≡ Denied (Plain n)
failed n P _ (fails h) = refl

value : {A : Type 0} (d : Denial) (o : Option A) (a : A) → need_or d o (Ok a) → o ≡ Some a
value d None a h = elim h [ ]
value d (Some b) a given = refl

other : (s : Stop) (n : ℕ) (role : Name) (version : ℕ) → s ≡ Denied (Plain n) → s ≡ Denied (RoleMissing role version) → ⊥
other s n role version h k = cc

module _ (V : Shelf) where
  record IsMissing (e : Edge) (role : Name) (version : ℕ) : Type 0 where
    pub into : e.role ≡ role
    pub entry : MetaFile
    pub listed : look_up V.listing role ≡ Some entry
    pub at : entry.version ≡ version
    pub absent : row_at V.rows role version ≡ None

  missing : (e : Edge) (now : ℕ) (s : Stop) (role : Name) (version : ℕ) → s ≡ Denied (RoleMissing role version) → visit V e now (Err s) → IsMissing e role version
  missing e now s role version is (decide h) = absurd (other s no.role_unlisted role version (no_value (Plain no.role_unlisted) (look_up V.listing e.role) s h).0 is)
  missing e now s role version is (pass {a = m} listed (decide h)) =
      let n = no_value (RoleMissing e.role m.version) (row_at V.rows e.role m.version) s h in
      let both : Denied (RoleMissing e.role m.version) ≡ Denied (RoleMissing role version) = sym n.0 ∙ is in
      let into : e.role ≡ role = cc in
      let at : m.version ≡ version = cc in
      record {
        into = into;
        entry = m;
        listed = ap (λ r. look_up V.listing r) (sym into) ∙ value (Plain no.role_unlisted) (look_up V.listing e.role) m listed;
        at = at;
        absent = ap (λ r. row_at V.rows r version) (sym into) ∙ ap (λ k. row_at V.rows e.role k) (sym at) ∙ n.1;
      }
  missing e now s role version is (pass listed (pass found (decide h))) = absurd (other s no.role_length role version (failed no.role_length _ s h) is)
  missing e now s role version is (pass listed (pass found (pass len (decide h)))) = absurd (other s no.role_hash role version (failed no.role_hash _ s h) is)
  missing e now s role version is (pass listed (pass found (pass len (pass hash (decide h))))) = absurd (other s no.role_threshold role version (failed no.role_threshold _ s h) is)
  missing e now s role version is (pass listed (pass found (pass len (pass hash (pass meets (decide h)))))) = absurd (other s no.role_expired role version (failed no.role_expired _ s h) is)
  missing e now s role version is (pass listed (pass found (pass len (pass hash (pass meets (pass live h)))))) = elim h [ ]

-- ---- a chain goes the same way where more is covered

abbrev IsMore : Graph → Graph → Type 0
IsMore g h = (u : Name) (i : ℕ) (e : Edge) → slice_get (hops g u) i ≡ Some (Some e) → slice_get (hops h u) i ≡ Some (Some e)

by_hop : (g : Graph) (seen : Names) (e next : Edge) (i : ℕ) (is : List ℕ) → slice_get (hops g e.role) i ≡ Some (Some next) → has_name (e.role ∷ seen) next.role ≡ false
    → leads g seen e (i ∷ is) ≡ leads g (e.role ∷ seen) next is
by_hop g seen e next i is at fresh = rw (at, fresh) refl

leads_too : (g h : Graph) → IsMore g h → (seen : Names) (e : Edge) (c : List ℕ) (last : Edge) → leads g seen e c ≡ Some last → leads h seen e c ≡ Some last
leads_too g h more seen e [] last is = is
leads_too g h more seen e (i ∷ c) last is =
    let hop = has_hop g seen e i c last is in
    by_hop h seen e hop.next i c (more e.role i hop.next hop.at) hop.fresh ∙ leads_too g h more (e.role ∷ seen) hop.next c last hop.rest

-- where a chain leads, so does each beginning of it
begins_too : (g : Graph) (seen : Names) (e : Edge) (c : List ℕ) (last : Edge) → leads g seen e c ≡ Some last → (k : ℕ) → (x : Edge) × (leads g seen e (take k c) ≡ Some x)
begins_too g seen e c last is zero = (e, refl)
begins_too g seen e [] last is (suc k) = (e, refl)
begins_too g seen e (i ∷ c) last is (suc k) =
    let hop = has_hop g seen e i c last is in
    let rest = begins_too g (e.role ∷ seen) hop.next c last hop.rest k in
    (rest.0, by_hop g seen e hop.next i (take k c) hop.at hop.fresh ∙ rest.1)

-- ---- all delegations are more than those that cover a path

kept_one : (b : Bool) (d e : Edge) → Some (cond b (Some d) None) ≡ Some (Some e) → Some (Some d) ≡ Some (Some e)
kept_one true d e h = h
kept_one false d e h = cc

more_of : (test : Delegation → Bool) (table : Table) (ds : List Delegation) (i : ℕ) (e : Edge)
    → slice_get (map (λ d. cond (test d) (Some (edge_of table d)) None) ds) i ≡ Some (Some e) → slice_get (map (λ d. Some (edge_of table d)) ds) i ≡ Some (Some e)
more_of test table [] i e h = cc
more_of test table (d ∷ ds) zero e h = kept_one (test d) (edge_of table d) e h
more_of test table (d ∷ ds) (suc i) e h = more_of test table ds i e h

more_hops : (test : Delegation → Bool) (o : Option Delegations) (i : ℕ) (e : Edge) → slice_get (hops_of test o) i ≡ Some (Some e) → slice_get (hops_of (λ d. true) o) i ≡ Some (Some e)
more_hops test None i e h = cc
more_hops test (Some ds) i e h = more_of test ds.keys ds.roles i e h

by_option : {A P : Type 0} (o : Option A) → (o ≡ None → P) → ((a : A) → o ≡ Some a → P) → P
by_option None n s = n refl
by_option (Some a) n s = s a refl

more_rows : (f : Name → MetaFile → Option (File Targets)) (test : Delegation → Bool) (listing : List (Name × MetaFile)) (u : Name) (i : ℕ) (e : Edge)
    → slice_get (hops_in (filter_map (λ m. option_map (λ t. (m.0, hops_of test t.body.delegations)) (f m.0 m.1)) listing) u) i ≡ Some (Some e)
    → slice_get (hops_in (filter_map (λ m. option_map (λ t. (m.0, hops_of (λ d. true) t.body.delegations)) (f m.0 m.1)) listing) u) i ≡ Some (Some e)
more_rows f test [] u i e h = cc
more_rows f test (m ∷ listing) u i e h = by_option (f m.0 m.1)
    (λ none. rw none (more_rows f test listing u i e (rw none at h)))
    (λ t some. by_test (bytes_eq m.0 u)
    (λ same. rw (some, same) (more_hops test t.body.delegations i e (rw (some, same) at h)))
    (λ differs. rw (some, differs) (more_rows f test listing u i e (rw (some, differs) at h))))

whole_has_more : (V : Shelf) (path : Bytes) → IsMore (here V path) (whole V)
whole_has_more V path u i e h = more_rows (named_row V.rows) (λ d. covers d path) V.listing u i e h

-- ---- the law

abbrev judged_found : Judged Found → Judged Found
judged_found j = j

plain_other : (n : ℕ) (role : Name) (version : ℕ) → judged_found (Err (Denied (Plain n))) ≡ Err (Denied (RoleMissing role version)) → ⊥
plain_other n role version h = cc

found_other : (found : Found) (s : Stop) → Ok found ≡ Err s → ⊥
found_other found s h = cc

same_stop : (s t : Stop) → judged_found (Err s) ≡ Err t → s ≡ t
same_stop s t h = cc

one_edge : (x y : Edge) → Some x ≡ Some y → x ≡ y
one_edge x y h = cc

module _ (V : Shelf) (path : Bytes) (now : ℕ) where
  vouched : (e : Edge) → Led V (here V path) now e → (new : File Targets) → MeetsEdge V e new → Vouched V e.role new now
  vouched e c new meets = (c.chain, record { last = e; leads = leads_too (here V path) (whole V) (whole_has_more V path) [] V.top c.chain e c.leads; ends = refl; earlier = earlier; meets = meets })
    where
      earlier : (k : ℕ) (x : Edge) → k < length c.chain → chain_end (whole V) (take k c.chain) ≡ Some x → Good V x now
      earlier k x less is =
          let b = begins_too (here V path) [] V.top c.chain e c.leads k in
          let too = leads_too (here V path) (whole V) (whole_has_more V path) [] V.top (take k c.chain) b.0 b.1 in
          subst (λ y. Good V y now) (one_edge b.0 x (sym too ∙ is)) (c.good k b.0 less b.1)

  by_visit : (role : Name) (version : ℕ) (taken rest : List Edge) (e : Edge) (left : ℕ) → visited V path ≡ taken ++ e ∷ rest → AllByRecursion (PassesBy V path now) taken
      → suc left + length taken ≡ most_visits → visit V e now (Err (Denied (RoleMissing role version))) → IsMissed V path now role version
  by_visit role version taken rest e left split on used h =
      let m = missing V e now (Denied (RoleMissing role version)) role version refl h in
      record {
        edge = e;
        into = m.into;
        entry = m.entry;
        listed = m.listed;
        at = m.at;
        absent = m.absent;
        vouches = λ new meets. subst (λ r. Vouched V r new now) m.into (vouched e (led_here V path now taken rest e split on) new meets);
        ends = λ W has t k. subst (λ U. search U path now (Err t)) (is_with V W has)
            (denied_too V W.rows has.rows path now taken rest e left t split on used (subst (λ U. visit U e now (Err t)) (sym (is_with V W has)) k));
      }

  by_end : (role : Name) (version : ℕ) (taken rest : List Edge) (left : ℕ) (j : Judged Found) → visited V path ≡ taken ++ rest → AllByRecursion (PassesBy V path now) taken
      → left + length taken ≡ most_visits → Ends V path now (last_number V path) left rest j → j ≡ Err (Denied (RoleMissing role version)) → IsMissed V path now role version
  by_end role version taken _ left _ split on used no_visit is = absurd (plain_other (last_number V path) role version is)
  by_end role version taken _ _ _ split on used no_room is = absurd (plain_other (last_number V path) role version is)
  by_end role version taken _ _ _ split on used (finds {e = e} file l seen lists) is = absurd (found_other (record { role = e.role; listing = l }) (Denied (RoleMissing role version)) is)
  by_end role version taken _ _ _ split on used (denies {room = left} {e = e} {es = es} {s = s} h) is =
      by_visit role version taken es e left split on used (subst (λ t. visit V e now (Err t)) (same_stop s (Denied (RoleMissing role version)) is) h)

  pub missed : (role : Name) (version : ℕ) → search V path now (Err (Denied (RoleMissing role version))) → IsMissed V path now role version
  missed role version h =
      let r = search_ended V path now (Err (Denied (RoleMissing role version))) h in
      by_end role version r.taken r.rest r.left (Err (Denied (RoleMissing role version))) r.split r.on r.used r.ends refl
