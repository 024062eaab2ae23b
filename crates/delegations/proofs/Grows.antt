-- A search over a shelf that holds more visits as before up to a role whose document was missing.
use Rattle.std.proofs.Common.{◌≡◌, ℕ, zero, suc, ◌+◌, Bool, cond, List, [], ◌∷◌, ◌++◌, length, Option, Some, None, Ok, Err, refl, sym, ap, ◌∙◌, subst, arith, append-nil, length-append}
use Rattle.std.specs.List.{AllByRecursion}
use Rattle.std.proofs.lemmas.Bool.{lt-ltb, le-ltb}
use Rattle.keys_roles.specs.Plain.{look_up}
use Rattle.document_parts.specs.Covers.{covers}
use Rattle.document_parts.specs.Documents.{Targets, MetaFile, Listing, Delegation}
use Rattle.metadata.specs.File.{Bytes, Name, Names, File}
use Rattle.denials.specs.Numbers as no
use Rattle.denials.specs.Orders.{Denial, Judged, Stop, Denied, Plain, RoleMissing, pass, decide, given, stopped, need_or}
use Rattle.delegations.specs.Delegation.{Edge, Hops, hops}
use Rattle.delegations.specs.Missed.{HasRowsOf}
use Rattle.delegations.specs.Rows.{row_at}
use Rattle.delegations.specs.Search.{Shelf, Found, doc, visit, listing_of, search, visited, most_visits}
use Rattle.delegations.specs.Verdicts.{PassesBy}
use Rattle.delegations.specs.steps.Course.{here, Decides, Exhausts, Passes}
use Rattle.delegations.specs.steps.Remains.{Remains, around, nothing, finished, passed_by, skipped, entered}
use Rattle.delegations.proofs.Ended.{Ends, no_visit, no_room, denies, finds, search_ended, last_number}
use Rattle.delegations.proofs.GoodVisits.{visits_good}
use Rattle.delegations.proofs.Look.{denied_here, found_here, passes_here, no_room as exhausts_here, no_visit as passes_none, then_decides, then_exhausts, then_passes}
use Rattle.delegations.proofs.Onward.{at_finished, at_passed_by, at_skipped, at_entered, at_nothing, hops_of_doc, begins}
use Rattle.delegations.proofs.SearchByWalk.{edges_are, walked_edges, decided, too_many, none_found}

-- ---- one visit

-- it is no document that is missing
abbrev pub IsThere : {A : Type 0} → Judged A → Type 0
IsThere j = (role : Name) (version : ℕ) → j ≡ Err (Denied (RoleMissing role version)) → ⊥

there : {A : Type 0} (d : Denial) (o : Option A) (a : A) → need_or d o (Ok a) → o ≡ Some a
there d None a h = elim h [ ]
there d (Some b) a given = refl

gives : {A : Type 0} (d : Denial) (o : Option A) (a : A) → o ≡ Some a → need_or d o (Ok a)
gives d o a h = subst (λ p. need_or d p (Ok a)) (sym h) given

stops : {A : Type 0} (d : Denial) (o : Option A) (s : Stop) → need_or d o (Err s) → s ≡ Denied d
stops d None _ stopped = refl
stops d (Some b) s h = elim h [ ]

-- an edge before visits that are split
joined : (t e : Edge) (taken later es fs : List Edge) → t ≡ e → fs ≡ e ∷ es → es ≡ taken ++ later → fs ≡ (t ∷ taken) ++ later
joined t e taken later es fs first whole split = cc

module _ (V : Shelf) (more : List ((Name × ℕ) × File Targets)) where
  abbrev W : Shelf
  W = record { top = V.top; listing = V.listing; rows = more }

  module _ (has : (role : Name) (entry : MetaFile) (file : File Targets) → look_up V.listing role ≡ Some entry → row_at V.rows role entry.version ≡ Some file → row_at more role entry.version ≡ Some file) where
    visit_again : (e : Edge) (now : ℕ) (j : Judged (File Targets)) → IsThere j → visit V e now j → visit W e now j
    visit_again e now _ fine (decide h) = decide h
    visit_again e now _ fine (pass {a = m} listed (decide {why = s} h)) =
        absurd (fine e.role m.version (ap Err (stops (RoleMissing e.role m.version) (row_at V.rows e.role m.version) s h)))
    visit_again e now j fine (pass {a = m} listed (pass {a = file} found rest)) =
        pass listed (pass (gives (RoleMissing e.role m.version) (row_at more e.role m.version) file
        (has e.role m file (there (Plain no.role_unlisted) (look_up V.listing e.role) m listed) (there (RoleMissing e.role m.version) (row_at V.rows e.role m.version) file found))) rest)

    ok_is_there : (file : File Targets) → IsThere (Ok file)
    ok_is_there file role version h = cc

    seen_again : (e : Edge) (now : ℕ) (file : File Targets) → visit V e now (Ok file) → visit W e now (Ok file)
    seen_again e now file seen = visit_again e now (Ok file) (ok_is_there file) seen

    document : (V' : Shelf) (e : Edge) (now : ℕ) (file : File Targets) → visit V' e now (Ok file) → doc V' e.role ≡ Some file
    document V' e now file seen = let g = (visits_good V' e now file).0 seen in subst (λ f. doc V' e.role ≡ Some f) g.1 g.0.there

    module _ (path : Bytes) (now : ℕ) where
      -- ---- the visits

      abbrev AreSame : Edge → Type 0
      AreSame e = hops (here W path) e.role ≡ hops (here V path) e.role

      same_hops : (e : Edge) → PassesBy V path now e → AreSame e
      same_hops e p =
          let test : Delegation → Bool = λ d. covers d path in
          hops_of_doc W test e.role p.file (document W e now p.file (seen_again e now p.file p.visits)) ∙ sym (hops_of_doc V test e.role p.file (document V e now p.file p.visits))

      abbrev SameHead : List Edge → List Edge → Type 0
      SameHead [] [] = Unit {0}
      SameHead [] (f ∷ fs) = ⊥
      SameHead (e ∷ es) [] = ⊥
      SameHead (e ∷ es) (f ∷ fs) = e ≡ f

      record Front (taken rest all : List Edge) : Type 0 where
        pub later : List Edge
        pub split : all ≡ taken ++ later
        pub head : SameHead rest later

      one_edge : (e : Edge) (es fs : List Edge) → e ∷ es ≡ e ∷ fs → es ≡ fs
      one_edge e es fs h = cc

      front : (hss : List Hops) (met : Names) (es fs taken rest : List Edge) → Remains (here V path) hss met es → es ≡ taken ++ rest
          → AllByRecursion AreSame taken → Remains (here W path) hss met fs → Front taken rest fs
      front hss met _ fs [] [] nothing at same h = record { later = fs; split = refl; head = subst (λ xs. SameHead [] xs) (sym (at_nothing (here W path) met fs h)) tt }
      front hss met _ fs [] (r ∷ rest) nothing at same h = cc
      front hss met _ fs (t ∷ taken) rest nothing at same h = cc
      front _ met es fs taken rest (finished {hss = hss} r) at same h = front hss met es fs taken rest r at same (at_finished (here W path) hss met fs h)
      front _ met es fs taken rest (passed_by {hs = hs} {hss = hss} r) at same h = front (hs ∷ hss) met es fs taken rest r at same (at_passed_by (here W path) hs hss met fs h)
      front _ met es fs taken rest (skipped {e = e} {hs = hs} {hss = hss} old r) at same h = front (around e hs hss) met es fs taken rest r at same (at_skipped (here W path) e hs hss met fs old h)
      front _ met _ fs [] [] (entered off r) at same h = cc
      front _ met _ fs [] (x ∷ rest) (entered {e = e} {hs = hs} {hss = hss} off r) at same h =
          let w = at_entered (here W path) e hs hss met fs off h in
          let first : x ≡ e = cc in
          record { later = fs; split = refl; head = subst (λ xs. SameHead (x ∷ rest) xs) (sym w.2) first }
      front _ met _ fs (t ∷ taken) rest (entered {e = e} {hs = hs} {hss = hss} {es = es} off r) at same h =
          let w = at_entered (here W path) e hs hss met fs off h in
          let first : t ≡ e = cc in
          let others : es ≡ taken ++ rest = cc in
          let alike : AreSame e = subst AreSame first same.0 in
          let f = front (hops (here V path) e.role ∷ around e hs hss) (e.role ∷ met) es w.0 taken rest r others same.1
          (subst (λ xs. Remains (here W path) (xs ∷ around e hs hss) (e.role ∷ met) w.0) alike w.1) in
          record { later = f.later; split = joined t e taken f.later w.0 fs first w.2 f.split; head = f.head }

      all_same : (es : List Edge) → AllByRecursion (PassesBy V path now) es → AllByRecursion AreSame es
      all_same [] h = tt
      all_same (e ∷ es) h = (same_hops e h.0, all_same es h.1)

      -- the visits from the top role
      abbrev Begun : Shelf → Type 0
      Begun U = (left : List Edge) × Remains (here U path) (hops (here U path) U.top.role ∷ []) (U.top.role ∷ []) left × (visited U path ≡ U.top ∷ left)

      visits_on : (taken rest : List Edge) → visited V path ≡ taken ++ rest → AllByRecursion (PassesBy V path now) taken → Front taken rest (visited W path)
      visits_on taken rest split on = from taken rest (sym v.2 ∙ split) (all_same taken on)
        where
          v : Begun V
          v = begins V path now []

          w : Begun W
          w = begins W path now []

          from : (taken rest : List Edge) → V.top ∷ v.0 ≡ taken ++ rest → AllByRecursion AreSame taken → Front taken rest (visited W path)
          from [] [] at same = cc
          from [] (x ∷ rest) at same = let first : x ≡ V.top = cc in record { later = visited W path; split = refl; head = subst (λ xs. SameHead (x ∷ rest) xs) (sym w.2) first }
          from (t ∷ taken) rest at same =
              let first : t ≡ V.top = cc in
              let others : v.0 ≡ taken ++ rest = cc in
              let alike : AreSame V.top = subst AreSame first same.0 in
              let f = front (hops (here V path) V.top.role ∷ []) (V.top.role ∷ []) v.0 w.0 taken rest v.1 others same.1
              (subst (λ xs. Remains (here W path) (xs ∷ []) (V.top.role ∷ []) w.0) alike w.1) in
              record { later = f.later; split = joined t V.top taken f.later w.0 (visited W path) first w.2 f.split; head = f.head }

      -- ---- what ends them

      passes : (taken : List Edge) (room left : ℕ) → left + length taken ≡ room → AllByRecursion (PassesBy V path now) taken → Passes W path now room taken left
      passes [] room left used on = subst (λ k. Passes W path now k [] left) (omega (arith, used)) (passes_none W path now left)
      passes (e ∷ taken) room left used on =
          subst (λ k. Passes W path now k (e ∷ taken) left) used
          (subst (λ k. Passes W path now k (e ∷ taken) left) (omega arith)
          (then_passes W path now (suc (left + length taken)) (left + length taken) left (e ∷ []) taken
          (passes_here W path now (left + length taken) e on.0.file (seen_again e now on.0.file on.0.visits) on.0.lists_not)
          (passes taken (left + length taken) left refl on.1)))

      walked : visited W path ≡ walked_edges (here W path)
      walked = edges_are (here W path)

      -- a visit that ends both
      pub denied_too : (taken rest : List Edge) (e : Edge) (left : ℕ) (s : Stop) → visited V path ≡ taken ++ e ∷ rest → AllByRecursion (PassesBy V path now) taken → suc left + length taken ≡ most_visits
          → visit W e now (Err s) → search W path now (Err s)
      denied_too taken rest e left s split on used h = by_front (visits_on taken (e ∷ rest) split on)
        where
          by_later : (later : List Edge) → visited W path ≡ taken ++ later → SameHead (e ∷ rest) later → search W path now (Err s)
          by_later [] at head = absurd head
          by_later (f ∷ fs) at head =
              decided W path now (Err s) (subst (λ es. Decides W path now most_visits es (Err s)) (sym (at ∙ ap (λ x. taken ++ x ∷ fs) (sym head)) ∙ walked)
              (then_decides W path now most_visits (suc left) taken (e ∷ fs) (Err s) (passes taken most_visits (suc left) used on) (denied_here W path now left e fs s h)))

          by_front : Front taken (e ∷ rest) (visited W path) → search W path now (Err s)
          by_front f = by_later f.later f.split f.head

      found_too : (taken rest : List Edge) (e : Edge) (left : ℕ) (file : File Targets) (l : Listing) → visited V path ≡ taken ++ e ∷ rest → AllByRecursion (PassesBy V path now) taken
          → suc left + length taken ≡ most_visits → visit V e now (Ok file) → listing_of file.body path ≡ Some l → search W path now (Ok (record { role = e.role; listing = l }))
      found_too taken rest e left file l split on used seen is = by_front (visits_on taken (e ∷ rest) split on)
        where
          j : Judged Found
          j = Ok (record { role = e.role; listing = l })

          by_later : (later : List Edge) → visited W path ≡ taken ++ later → SameHead (e ∷ rest) later → search W path now j
          by_later [] at head = absurd head
          by_later (f ∷ fs) at head =
              decided W path now j (subst (λ es. Decides W path now most_visits es j) (sym (at ∙ ap (λ x. taken ++ x ∷ fs) (sym head)) ∙ walked)
              (then_decides W path now most_visits (suc left) taken (e ∷ fs) j (passes taken most_visits (suc left) used on) (found_here W path now left e fs file l (seen_again e now file seen) is)))

          by_front : Front taken (e ∷ rest) (visited W path) → search W path now j
          by_front f = by_later f.later f.split f.head

      none_too : (taken : List Edge) (left : ℕ) → visited V path ≡ taken ++ [] → AllByRecursion (PassesBy V path now) taken → left + length taken ≡ most_visits
          → search W path now (Err (Denied (Plain (last_number V path))))
      none_too taken left split on used = by_front (visits_on taken [] split on)
        where
          number : last_number V path ≡ no.not_found
          number = ap (λ b. cond b no.too_many_roles no.not_found) (le-ltb most_visits (length (visited V path)) (rw (split ∙ append-nil taken) (omega (arith, used))))

          by_later : (later : List Edge) → visited W path ≡ taken ++ later → SameHead [] later → search W path now (Err (Denied (Plain (last_number V path))))
          by_later (f ∷ fs) at head = absurd head
          by_later [] at head =
              rw number (none_found W path now left (subst (λ es. Passes W path now most_visits es left) (sym (at ∙ append-nil taken) ∙ walked) (passes taken most_visits left used on)))

          by_front : Front taken [] (visited W path) → search W path now (Err (Denied (Plain (last_number V path))))
          by_front f = by_later f.later f.split f.head

      many_too : (taken rest : List Edge) (e : Edge) → visited V path ≡ taken ++ e ∷ rest → AllByRecursion (PassesBy V path now) taken → zero + length taken ≡ most_visits
          → search W path now (Err (Denied (Plain (last_number V path))))
      many_too taken rest e split on used = by_front (visits_on taken (e ∷ rest) split on)
        where
          number : last_number V path ≡ no.too_many_roles
          number = ap (λ b. cond b no.too_many_roles no.not_found) (lt-ltb most_visits (length (visited V path)) (rw (split, length-append taken (e ∷ rest)) (omega (arith, used))))

          by_later : (later : List Edge) → visited W path ≡ taken ++ later → SameHead (e ∷ rest) later → search W path now (Err (Denied (Plain (last_number V path))))
          by_later [] at head = absurd head
          by_later (f ∷ fs) at head =
              rw number (too_many W path now (subst (λ es. Exhausts W path now most_visits es) (sym at ∙ walked)
              (then_exhausts W path now most_visits zero taken (f ∷ fs) (passes taken most_visits zero used on) (exhausts_here W path now f fs))))

          by_front : Front taken (e ∷ rest) (visited W path) → search W path now (Err (Denied (Plain (last_number V path))))
          by_front f = by_later f.later f.split f.head

      err_is_there : (s : Stop) → IsThere {A = Found} (Err s) → IsThere {A = File Targets} (Err s)
      err_is_there s fine role version h = let same : s ≡ Denied (RoleMissing role version) = cc in fine role version (ap Err same)

      by_end : (taken rest : List Edge) (left : ℕ) (j : Judged Found) → visited V path ≡ taken ++ rest → AllByRecursion (PassesBy V path now) taken → left + length taken ≡ most_visits
          → Ends V path now (last_number V path) left rest j → IsThere j → search W path now j
      by_end taken _ left _ split on used no_visit fine = none_too taken left split on used
      by_end taken _ _ _ split on used (no_room {e = e} {es = es}) fine = many_too taken es e split on used
      by_end taken _ _ _ split on used (denies {room = left} {e = e} {es = es} {s = s} h) fine = denied_too taken es e left s split on used (visit_again e now (Err s) (err_is_there s fine) h)
      by_end taken _ _ _ split on used (finds {room = left} {e = e} {es = es} file l seen is) fine = found_too taken es e left file l split on used seen is

      pub stays : (j : Judged Found) → IsThere j → search V path now j → search W path now j
      stays j fine h = let r = search_ended V path now j h in by_end r.taken r.rest r.left j r.split r.on r.used r.ends fine

-- ---- over any shelf that holds more

pub is_with : (V W : Shelf) → HasRowsOf V W → record { top = V.top; listing = V.listing; rows = W.rows } ≡ W
is_with V W has = sym (ap (λ t. make t W.listing) has.top ∙ ap (λ l. make V.top l) has.listing)
  where
    make : Edge → List (Name × MetaFile) → Shelf
    make top listing = record { top = top; listing = listing; rows = W.rows }

pub grows : (V W : Shelf) (path : Bytes) (now : ℕ) (j : Judged Found) → HasRowsOf V W → IsThere j → search V path now j → search W path now j
grows V W path now j has fine h = subst (λ U. search U path now j) (is_with V W has) (stays V W.rows has.rows path now j fine h)
