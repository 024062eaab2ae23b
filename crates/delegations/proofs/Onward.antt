-- From the course of a walk to the stack of what is left, and each step on the stack.
use Rattle.std.proofs.Common.{◌≡◌, ℕ, suc, ◌+◌, ◌-◌, ◌*◌, ◌≤◌, ◌<◌, Bool, true, false, ◌||◌, List, [], ◌∷◌, ◌++◌, length, Option, Some, None, Ok, Err, refl, ap, sym, ◌∙◌, subst, arith, true≢false, append-nil, append_assoc, length-append, bytes_eq, filter_map, option_map, ◌⊎◌, inl, inr}
use Rattle.std.specs.Prelude.{option_and_then}
use Rattle.std.specs.List.{AllByRecursion}
use Rattle.std.proofs.lemmas.Slice.Eq.{bytes_eq-Decides}
use Rattle.keys_roles.specs.Plain.{look_up}
use Rattle.document_parts.specs.Covers.{covers}
use Rattle.document_parts.specs.Documents.{Targets, Listing, MetaFile, Delegation}
use Rattle.metadata.specs.File.{Bytes, Name, Names, File, has_name}
use Rattle.denials.specs.Orders.{Judged, Denied, Plain, Denial}
use Rattle.denials.specs.Numbers as no
use Rattle.delegations.specs.Delegation.{Edge, Hops, Graph, hops, hops_in}
use Rattle.delegations.specs.Rows.{Place, Rows, value_at, same_place, named_row}
use Rattle.delegations.specs.Search.{Shelf, Found, doc, graph_of, hops_of, visit, listing_of, search, visited}
use Rattle.delegations.specs.Verdicts.{Table, lacking, all_lacking, PassesBy, AreVisited, Costs}
use Rattle.delegations.specs.Visits.{Visits}
use Rattle.delegations.specs.steps.Course.{Course, Goes, done, uncovered, known, known_last, new, new_last, here, Decides, Exhausts, Passes}
use Rattle.delegations.specs.steps.Remains.{Remains, around, nothing, finished, passed_by, skipped, entered, IsAt, IsBefore, wide, load}
use Rattle.delegations.proofs.Walk.{by_test}
use Rattle.delegations.proofs.Look.{denied_here, found_here, passes_here, no_room, no_visit, then_decides, then_exhausts, then_passes}
use Rattle.delegations.proofs.GoodVisits.{found_row, visits_good}
use Rattle.delegations.proofs.Paths.{from_root}
use Rattle.delegations.proofs.Seen.{denied_ends, found_ends, one_more, seen_all, seen_first, seen_one}
use Rattle.delegations.proofs.SearchByWalk.{walked_edges, edges_are, decided, too_many, none_found}

or_first : (a b : Bool) → (a || b) ≡ false → a ≡ false
or_first false b h = refl
or_first true b h = absurd (true≢false h)

or_second : (a b : Bool) → (a || b) ≡ false → b ≡ false
or_second false b h = h
or_second true b h = absurd (true≢false h)

or_rest : (a b : Bool) → (a || b) ≡ true → b ≡ false → a ≡ true
or_rest true b h off = refl
or_rest false b h off = absurd (true≢false (sym h ∙ off))

module _ (g : Graph) where
  -- what follows a course in the roles outside
  abbrev pub Outside : List Hops → Course → List Edge → Type 0
  Outside hss c es = ((c.stop ≡ true) × (es ≡ [])) ⊎ ((c.stop ≡ false) × Remains g hss c.met es)

  -- a course, and what follows it outside
  pub follow : (hs : Hops) (met : Names) (c : Course) (hss : List Hops) (es : List Edge) → Goes g hs met c → Outside hss c es → Remains g (hs ∷ hss) met (c.edges ++ es)
  follow hs met c hss es done (inl h) = absurd (true≢false (sym h.0))
  follow hs met c hss es done (inr h) = finished h.1
  follow hs met c hss es (uncovered {hs = later} h) out = passed_by (follow later met c hss es h out)
  follow hs met c hss es (known {e = e} {hs = later} there more h) out = skipped there (rw more (follow later met c hss es h out))
  follow hs met c hss es (known_last {e = e} there last) (inl h) = skipped there (rw (last, h.1) nothing)
  follow hs met c hss es (known_last there last) (inr h) = absurd (true≢false h.0)
  follow hs met c hss es (new {e = e} {hs = later} {a = a} {b = b} off below not_last h) out =
      entered off (rw (or_second a.stop e.terminating not_last, append_assoc a.edges b.edges es)
      (follow (hops g e.role) (e.role ∷ met) a (later ∷ hss) (b.edges ++ es) below (inr (or_first a.stop e.terminating not_last, follow later a.met b hss es h out))))
  follow hs met c hss es (new_last off below last) (inr h) = absurd (true≢false h.0)
  follow hs met c hss es (new_last {e = e} {hs = later} {a = a} off below last) (inl h) =
      subst (λ t. Remains g ((Some e ∷ later) ∷ hss) met ((e ∷ a.edges) ++ t)) (sym h.1)
      (entered off (by_test e.terminating
      (λ t. rw t (follow (hops g e.role) (e.role ∷ met) a [] [] below (by_test a.stop (λ s. inl (s, refl)) (λ s. inr (s, nothing)))))
      (λ t. rw t (follow (hops g e.role) (e.role ∷ met) a (later ∷ hss) [] below (inl (or_rest a.stop e.terminating last t, refl))))))

  -- what a walk has left at a delegation
  pub at_finished : (hss : List Hops) (met : Names) (es : List Edge) → Remains g ([] ∷ hss) met es → Remains g hss met es
  at_finished hss met es (finished h) = h

  pub at_passed_by : (hs : Hops) (hss : List Hops) (met : Names) (es : List Edge) → Remains g ((None ∷ hs) ∷ hss) met es → Remains g (hs ∷ hss) met es
  at_passed_by hs hss met es (passed_by h) = h

  pub at_skipped : (e : Edge) (hs : Hops) (hss : List Hops) (met : Names) (es : List Edge) → has_name met e.role ≡ true → Remains g ((Some e ∷ hs) ∷ hss) met es → Remains g (around e hs hss) met es
  at_skipped e hs hss met es there (skipped _ h) = h
  at_skipped e hs hss met es there (entered off h) = absurd (true≢false (sym there ∙ off))

  pub at_entered : (e : Edge) (hs : Hops) (hss : List Hops) (met : Names) (es : List Edge) → has_name met e.role ≡ false → Remains g ((Some e ∷ hs) ∷ hss) met es
      → (later : List Edge) × Remains g (hops g e.role ∷ around e hs hss) (e.role ∷ met) later × (es ≡ e ∷ later)
  at_entered e hs hss met es off (skipped there h) = absurd (true≢false (sym there ∙ off))
  at_entered e hs hss met es off (entered {es = later} _ h) = (later, h, refl)

  pub at_nothing : (met : Names) (es : List Edge) → Remains g [] met es → es ≡ []
  at_nothing met es nothing = refl

lacking_append : (V : Shelf) (T : Table) (xs ys : List Edge) → all_lacking V T (xs ++ ys) ≡ all_lacking V T xs + all_lacking V T ys
lacking_append V T [] ys = omega arith
lacking_append V T (x ∷ xs) ys = omega (arith, lacking_append V T xs ys)

all_on : (P : Edge → Type 0) (xs : List Edge) (y : Edge) → AllByRecursion P xs → P y → AllByRecursion P (xs ++ y ∷ [])
all_on P [] y h is = (is, tt)
all_on P (x ∷ xs) y h is = (h.0, all_on P xs y h.1 is)

-- ---- the delegations of a role that a visit has seen

some_same : {A : Type 0} (a b : A) → Some a ≡ Some b → a ≡ b
some_same a b h = cc

by_option : {A P : Type 0} (o : Option A) → (o ≡ None → P) → ((a : A) → o ≡ Some a → P) → P
by_option None n s = n refl
by_option (Some a) n s = s a refl

first_row : (f : Name → MetaFile → Option (File Targets)) (h : File Targets → Hops) (role : Name) (entry : MetaFile) (file : File Targets) (listing : List (Name × MetaFile))
    → look_up listing role ≡ Some entry → f role entry ≡ Some file
    → hops_in (filter_map (λ m. option_map (λ t. (m.0, h t)) (f m.0 m.1)) listing) role ≡ h file
first_row f h role entry file [] is there = cc
first_row f h role entry file (row ∷ rows) is there = by_test (bytes_eq row.0 role)
    (λ t. let name : row.0 ≡ role = (bytes_eq-Decides row.0 role).0 t in
    let value : row.1 ≡ entry = some_same row.1 entry (rw t at is) in
    let it : f row.0 row.1 ≡ Some file = rw (name, value) there in
    rw (it, t) refl)
    (λ t. let rest : hops_in (filter_map (λ m. option_map (λ t. (m.0, h t)) (f m.0 m.1)) rows) role ≡ h file = first_row f h role entry file rows (rw t at is) there in
    by_option (f row.0 row.1) (λ none. rw none rest) (λ x some. rw (some, t) rest))

-- the delegations of a role with a document
pub hops_of_doc : (V : Shelf) (test : Delegation → Bool) (role : Name) (file : File Targets) → doc V role ≡ Some file → hops (graph_of V test) role ≡ hops_of test file.body.delegations
hops_of_doc V test role file is = by_option (look_up V.listing role)
    (λ none. absurd (nowhere (sym (ap (λ o. option_and_then (named_row V.rows role) o) none) ∙ is)))
    (λ entry listed. first_row (named_row V.rows) (λ t. hops_of test t.body.delegations) role entry file V.listing listed (sym (ap (λ o. option_and_then (named_row V.rows role) o) listed) ∙ is))
  where
    nowhere : None ≡ Some file → ⊥
    nowhere h = cc

module _ (V : Shelf) (path : Bytes) (now : ℕ) (T : Table) where
  visited_are : visited V path ≡ walked_edges (here V path)
  visited_are = edges_are (here V path)

  decides_it : (j : Judged Found) → Decides V path now 32 (visited V path) j → search V path now j
  decides_it j d = decided V path now j (subst (λ es. Decides V path now 32 es j) visited_are d)

  -- the visits: the top role, and what a walk has left below it
  pub begins : (left : List Edge) × Remains (here V path) (hops (here V path) V.top.role ∷ []) (V.top.role ∷ []) left × (visited V path ≡ V.top ∷ left)
  begins =
      let r = from_root (here V path) in (
        r.under.edges,
        subst (λ t. Remains (here V path) (hops (here V path) V.top.role ∷ []) (V.top.role ∷ []) t) (append-nil r.under.edges)
            (follow (here V path) (hops (here V path) V.top.role) (V.top.role ∷ []) r.under [] [] r.goes (by_test r.under.stop (λ s. inl (s, refl)) (λ s. inr (s, nothing)))),
        visited_are ∙ r.edges,
      )

  -- the search at its start
  pub starts : IsBefore V path now T 0 V.top [] []
  starts = record { taken = []; left = begins.0; named = refl; passed = no_visit V path now 32; on = tt; remains = begins.1; split = begins.2; paid = omega arith }

  -- its steps along the delegations
  module _ (count : ℕ) (hss : List Hops) (met : Names) where
    pub step_finished : IsAt V path now T count ([] ∷ hss) met → IsAt V path now T count hss met
    step_finished a = record { taken = a.taken; left = a.left; named = a.named; passed = a.passed; on = a.on; split = a.split; paid = a.paid; remains = at_finished (here V path) hss met a.left a.remains }

    pub step_passed_by : (hs : Hops) → IsAt V path now T count ((None ∷ hs) ∷ hss) met → IsAt V path now T count (hs ∷ hss) met
    step_passed_by hs a = record { taken = a.taken; left = a.left; named = a.named; passed = a.passed; on = a.on; split = a.split; paid = a.paid; remains = at_passed_by (here V path) hs hss met a.left a.remains }

    pub step_skipped : (e : Edge) (hs : Hops) → has_name met e.role ≡ true → IsAt V path now T count ((Some e ∷ hs) ∷ hss) met → IsAt V path now T count (around e hs hss) met
    step_skipped e hs there a = record { taken = a.taken; left = a.left; named = a.named; passed = a.passed; on = a.on; split = a.split; paid = a.paid; remains = at_skipped (here V path) e hs hss met a.left there a.remains }

    pub step_entered : (e : Edge) (hs : Hops) → has_name met e.role ≡ false → IsAt V path now T count ((Some e ∷ hs) ∷ hss) met → IsBefore V path now T count e (around e hs hss) met
    step_entered e hs off a =
        let r = at_entered (here V path) e hs hss met a.left off a.remains in
        record { taken = a.taken; left = r.0; named = a.named; passed = a.passed; on = a.on; paid = a.paid; remains = r.1; split = a.split ∙ ap (λ t. a.taken ++ t) r.2 }

  -- the visits that were made, where the last may decide, or where the room is used up
  module _ (taken : List Edge) (left : ℕ) (passed : Passes V path now 32 taken left) (on : AllByRecursion (PassesBy V path now) taken) where
    made_all : (rest : List Edge) → visited V path ≡ taken ++ rest → AreVisited V path now taken
    made_all rest split = record { passed = taken; last = []; rest = rest; are = sym (append-nil taken); one = omega arith; few = omega (arith, passed.used); first = split; on = on }

    made_one : (e : Edge) (rest : List Edge) → 0 < left → visited V path ≡ taken ++ (e ∷ rest) → AreVisited V path now (taken ++ e ∷ [])
    made_one e rest room split = record {
      passed = taken;
      last = e ∷ [];
      rest = rest;
      are = refl;
      one = omega arith;
      few = rw (length-append taken (e ∷ [])) (omega (arith, passed.used, room));
      first = split ∙ sym (append_assoc taken (e ∷ []) rest);
      on = on;
    }

  -- nothing is left
  pub ends_unfound : (count : ℕ) (met : Names) → IsAt V path now T count [] met → search V path now (Err (Denied (Plain no.not_found))) × Costs V T path now count × Visits V path now met
  ends_unfound count met a =
      let all : visited V path ≡ a.taken = a.split ∙ ap (λ t. a.taken ++ t) (at_nothing (here V path) met a.left a.remains) ∙ append-nil a.taken in (
        none_found V path now (32 - length met) (subst (λ es. Passes V path now 32 es (32 - length met)) (sym all ∙ visited_are) a.passed),
        record { edges = a.taken; visited = made_all a.taken (32 - length met) a.passed a.on a.left a.split; most = a.paid },
        seen_all V path now (32 - length met) a.taken met a.passed.used a.on all a.named,
      )

  -- the visit that comes next
  module _ (count : ℕ) (e : Edge) (hss : List Hops) (met : Names) (b : IsBefore V path now T count e hss met) where
    spent_before : Costs V T path now count
    spent_before = record { edges = b.taken; visited = made_all b.taken (32 - length met) b.passed b.on (e ∷ b.left) b.split; most = b.paid }

    -- with the checks of the visit
    more_paid : (later : ℕ) → later ≤ count + lacking V T e → later ≤ all_lacking V T (b.taken ++ e ∷ [])
    more_paid later most = rw (lacking_append V T b.taken (e ∷ [])) (omega (arith, most, b.paid))

    spent_with : (later left : ℕ) → 32 - length met ≡ suc left → later ≤ count + lacking V T e → Costs V T path now later
    spent_with later left is most = record { edges = b.taken ++ e ∷ []; visited = made_one b.taken (32 - length met) b.passed b.on e b.left (omega (arith, is)) b.split; most = more_paid later most }

    pub ends_full : 32 - length met ≡ 0 → search V path now (Err (Denied (Plain no.too_many_roles))) × Costs V T path now count × Visits V path now met
    ends_full full = (
      too_many V path now (subst (λ es. Exhausts V path now 32 es) (sym b.split ∙ visited_are)
          (then_exhausts V path now 32 (32 - length met) b.taken (e ∷ b.left) b.passed (rw full (no_room V path now e b.left)))),
      spent_before,
      seen_first V path now b.taken e b.left met (omega (arith, full, b.passed.used)) b.on b.split b.named,
    )

    -- the visits with this one, which ends the search
    seen_with : (left : ℕ) → 32 - length met ≡ suc left → (PassesBy V path now e → ⊥) → Visits V path now (e.role ∷ met)
    seen_with left is last = seen_one V path now left b.taken e b.left (e.role ∷ met) (omega (arith, is, b.passed.used)) b.on last b.split (one_more met b.taken e b.named)

    ends_by : (j : Judged Found) → Decides V path now (32 - length met) (e ∷ b.left) j → search V path now j
    ends_by j d = decides_it j (subst (λ es. Decides V path now 32 es j) (sym b.split) (then_decides V path now 32 (32 - length met) b.taken (e ∷ b.left) j b.passed d))

    pub ends_denied : (later left : ℕ) (d : Denial) → later ≤ count + lacking V T e → 32 - length met ≡ suc left → visit V e now (Err (Denied d)) → search V path now (Err (Denied d)) × Costs V T path now later × Visits V path now (e.role ∷ met)
    ends_denied later left d most is h = (ends_by (Err (Denied d)) (rw is (denied_here V path now left e b.left (Denied d) h)), spent_with later left is most, seen_with left is (denied_ends V path now e (Denied d) h))

    pub ends_found : (later left : ℕ) (file : File Targets) (l : Listing) → later ≤ count + lacking V T e → 32 - length met ≡ suc left → visit V e now (Ok file) → listing_of file.body path ≡ Some l
        → search V path now (Ok (record { role = e.role; listing = l })) × Costs V T path now later × Visits V path now (e.role ∷ met)
    ends_found later left file l most is seen lists = (ends_by (Ok (record { role = e.role; listing = l })) (rw is (found_here V path now left e b.left file l seen lists)), spent_with later left is most, seen_with left is (found_ends V path now e file l seen lists))

    pub goes_in : (later left : ℕ) (file : File Targets) (hs : Hops) → later ≤ count + lacking V T e → 32 - length met ≡ suc left → left ≡ 32 - length (e.role ∷ met) → visit V e now (Ok file) → listing_of file.body path ≡ None
        → hops (here V path) e.role ≡ hs → IsAt V path now T later (hs ∷ hss) (e.role ∷ met)
    goes_in later left file hs most is left_is seen none are = record {
      taken = b.taken ++ (e ∷ []);
      left = b.left;
      named = one_more met b.taken e b.named;
      passed = then_passes V path now 32 (32 - length met) (32 - length (e.role ∷ met)) b.taken (e ∷ []) b.passed
          (subst (λ r. Passes V path now r (e ∷ []) (32 - length (e.role ∷ met))) (sym is)
          (subst (λ r. Passes V path now (suc left) (e ∷ []) r) left_is (passes_here V path now left e file seen none)));
      on = all_on (PassesBy V path now) b.taken e b.on (record { file = file; visits = seen; lists_not = none });
      remains = subst (λ t. Remains (here V path) (t ∷ hss) (e.role ∷ met) b.left) are b.remains;
      split = b.split ∙ sym (append_assoc b.taken (e ∷ []) b.left);
      paid = more_paid later most;
    }

    -- the delegations of the document that the visit saw
    pub hops_there : (file : File Targets) → visit V e now (Ok file) → hops (here V path) e.role ≡ hops_of (λ d. covers d path) file.body.delegations
    hops_there file seen =
        let g = (visits_good V e now file).0 seen in
        hops_of_doc V (λ d. covers d path) e.role file (subst (λ f. doc V e.role ≡ Some f) g.1 g.0.there)

-- a row has no more delegations than all rows
narrow : (path : Bytes) (rows : Rows) (place : Place) (file : File Targets) → value_at same_place rows place ≡ Some file → length (hops_of (λ d. covers d path) file.body.delegations) ≤ wide path rows
narrow path [] place file h = cc
narrow path (row ∷ rows) place file h = by_test (same_place row.0 place)
    (λ t. let same : row.1 ≡ file = some_same row.1 file (rw t at h) in
    let here : length (hops_of (λ d. covers d path) row.1.body.delegations) ≡ length (hops_of (λ d. covers d path) file.body.delegations) = ap (λ (f : File Targets). length (hops_of (λ d. covers d path) f.body.delegations)) same in
    omega (arith, here))
    (λ t. omega (arith, narrow path rows place file (rw t at h)))

-- nor has a document that a visit saw
pub narrow_seen : (V : Shelf) (path : Bytes) (e : Edge) (now : ℕ) (file : File Targets) → visit V e now (Ok file) → length (hops_of (λ d. covers d path) file.body.delegations) ≤ wide path V.rows
narrow_seen V path e now file seen =
    let n = found_row V e now file seen in
    narrow path V.rows (e.role, n.0) file n.1

-- one visit makes room for one frame
pub lighter : (len width added old : ℕ) → len < 32 → added ≤ width → (32 - suc len) * suc width + (suc added + old) ≤ (32 - len) * suc width + old
lighter len width added old less fits =
    let is : 32 - len ≡ suc (32 - suc len) = omega (arith, less) in
    rw is (omega (arith, fits))

pub around_load : (e : Edge) (hs : Hops) (hss : List Hops) → load (around e hs hss) ≤ suc (length hs) + load hss
around_load e hs hss = by_test e.terminating (λ t. rw t (omega arith)) (λ t. rw t (omega arith))
