-- A search reads the rows at listed versions alone.
use Rattle.std.proofs.Common.{◌≡◌, ℕ, Bool, true, false, cond, ◌&&◌, List, [], ◌∷◌, filter, take, length, Option, Some, None, option_map, option_and_then, Ok, refl, sym, ap, ◌∙◌, subst, bytes_eq, nat_lt}
use Rattle.std.proofs.lemmas.Bool.{true≢false}
use Rattle.std.proofs.lemmas.Slice.Eq.{bytes_eq-Decides}
use Rattle.std.specs.Prelude.{◌<◌}
use Rattle.std.specs.List.{AllByRecursion, cons_option, filter_map}
use Rattle.keys_roles.specs.Plain.{look_up}
use Rattle.document_parts.specs.Documents.{Delegation, Listing, MetaFile, Targets}
use Rattle.metadata.specs.File.{Bytes, Name, File}
use Rattle.document_parts.specs.Covers.{covers}
use Rattle.denials.specs.Numbers as no
use Rattle.denials.specs.Orders.{Judged, Order, RoleMissing, pass, decide, ◌>>=◌, ◌>>◌, give, denied, check, need_or}
use Rattle.delegations.specs.Delegation.{Edge, Graph, Hops, chain_end, visits}
use Rattle.delegations.specs.Rows.{Rows, HasLength, HasHash, has_hash, has_length, named_row, row_at, value_at}
use Rattle.delegations.specs.Search.{Shelf, Found, MeetsEdge, doc, find_in, found_or, graph_of, hops_of, listing_of, most_visits, search, visit, visited}
use Rattle.trust_rules.proofs.LinesGive.{needed}

-- the value at a key that passes is the same among the rows that pass
pub value_kept : {K A : Type 0} (same : K → K → Bool) → ((a b : K) → same a b ≡ true → a ≡ b) → (p : K → Bool) (rows : List (K × A)) (k : K) → p k ≡ true
    → value_at same (filter (λ row. p row.0) rows) k ≡ value_at same rows k
value_kept same one p [] k h = refl
value_kept {K} {A} same one p (row ∷ rows) k h = at (p row.0) refl (same row.0 k) refl (value_kept same one p rows k h)
  where
    at : (a : Bool) → p row.0 ≡ a → (b : Bool) → same row.0 k ≡ b → value_at same (filter (λ row. p row.0) rows) k ≡ value_at same rows k
        → value_at same (filter (λ row. p row.0) (row ∷ rows)) k ≡ value_at same (row ∷ rows) k
    at true e b f later = rw e (ap (λ (o : Option A). cond (same row.0 k) (Some row.1) o) later)
    at false e true f later = absurd (true≢false (sym h ∙ ap p (sym (one row.0 k f)) ∙ e))
    at false e false f later = rw (e, f) later

-- at another key there is none
pub value_gone : {K A : Type 0} (same : K → K → Bool) → ((a b : K) → same a b ≡ true → a ≡ b) → (p : K → Bool) (rows : List (K × A)) (k : K) → p k ≡ false
    → value_at same (filter (λ row. p row.0) rows) k ≡ None
value_gone same one p [] k h = refl
value_gone {K} {A} same one p (row ∷ rows) k h = at (p row.0) refl (same row.0 k) refl (value_gone same one p rows k h)
  where
    at : (a : Bool) → p row.0 ≡ a → (b : Bool) → same row.0 k ≡ b → value_at same (filter (λ row. p row.0) rows) k ≡ None
        → value_at same (filter (λ row. p row.0) (row ∷ rows)) k ≡ None
    at true e true f later = absurd (true≢false (sym e ∙ ap p (one row.0 k f) ∙ h))
    at true e false f later = rw (e, f) later
    at false e b f later = rw e later

pub filter_map_so : {X Y : Type 0} (f g : X → Option Y) (xs : List X) → AllByRecursion (λ x. f x ≡ g x) xs → filter_map f xs ≡ filter_map g xs
filter_map_so f g [] h = refl
filter_map_so {X} {Y} f g (x ∷ xs) h = rw (h.0) (ap (cons_option (g x)) (filter_map_so f g xs h.1))

-- each row that the listing names is the same among the one rows and the other
abbrev pub AreSame : List (Name × MetaFile) → Rows → Rows → Type 0
AreSame listing rows more = AllByRecursion (λ m. row_at rows m.0 m.1.version ≡ row_at more m.0 m.1.version) listing

pub same_back : (listing : List (Name × MetaFile)) (rows more : Rows) → AreSame listing rows more → AreSame listing more rows
same_back [] rows more h = tt
same_back (m ∷ ms) rows more h = (sym h.0, same_back ms rows more h.1)

look_same : (listing : List (Name × MetaFile)) (rows more : Rows) (role : Name) (e : MetaFile) → AreSame listing rows more → look_up listing role ≡ Some e
    → row_at rows role e.version ≡ row_at more role e.version
look_same [] rows more role e h is = absurd (cc)
look_same (m ∷ ms) rows more role e h is = at (bytes_eq m.0 role) refl (look_same ms rows more role e h.1) is
  where
    at : (t : Bool) → bytes_eq m.0 role ≡ t → (look_up ms role ≡ Some e → row_at rows role e.version ≡ row_at more role e.version)
        → cond t (Some m.1) (look_up ms role) ≡ Some e → row_at rows role e.version ≡ row_at more role e.version
    at true f later k =
        let one : m.1 ≡ e = cc in
        subst (λ (n : Name). row_at rows n e.version ≡ row_at more n e.version) ((bytes_eq-Decides m.0 role).0 f)
        (subst (λ (g : MetaFile). row_at rows m.0 g.version ≡ row_at more m.0 g.version) one h.0)
    at false f later k = later k

module _ (top : Edge) (listing : List (Name × MetaFile)) (rows more : Rows) (same : AreSame listing rows more) where
  abbrev V : Shelf
  V = record { top = top; listing = listing; rows = rows }

  abbrev W : Shelf
  W = record { top = top; listing = listing; rows = more }

  named_same : (role : Name) (m : MetaFile) → row_at rows role m.version ≡ row_at more role m.version → named_row rows role m ≡ named_row more role m
  named_same role m e =
      ap (λ (o : Option (File Targets)). option_and_then (λ file. cond (has_length m file.bytes && has_hash m file.bytes) (Some file) None) o) e

  pub doc_same : (role : Name) → doc V role ≡ doc W role
  doc_same role = at (look_up listing role) refl
    where
      at : (o : Option MetaFile) → look_up listing role ≡ o → doc V role ≡ doc W role
      at None e = rw e refl
      at (Some m) e = rw e (named_same role m (look_same listing rows more role m same e))

  -- what a role's document is in a graph
  abbrev graph_row : (Delegation → Bool) → Rows → Name × MetaFile → Option (Name × Hops)
  graph_row test held m = option_map {U = Name × Hops} (λ file. (m.0, hops_of test file.body.delegations)) (named_row held m.0 m.1)

  graph_rows : (test : Delegation → Bool) (ms : List (Name × MetaFile)) → AreSame ms rows more → AllByRecursion (λ m. graph_row test rows m ≡ graph_row test more m) ms
  graph_rows test [] h = tt
  graph_rows test (m ∷ ms) h =
      (ap (λ (o : Option (File Targets)). option_map {U = Name × Hops} (λ file. (m.0, hops_of test file.body.delegations)) o) (named_same m.0 m.1 h.0), graph_rows test ms h.1)

  graph_same : (test : Delegation → Bool) → graph_of V test ≡ graph_of W test
  graph_same test =
      ap (λ (l : List (Name × Hops)). record { root = top; rows = l })
      (filter_map_so (graph_row test rows) (graph_row test more) listing (graph_rows test listing same))

  visited_same : (path : Bytes) → visited V path ≡ visited W path
  visited_same path = ap (λ (g : Graph). filter_map (chain_end g) (visits g)) (graph_same (λ d. covers d path))

  -- a visit, where this is the row that it looks at
  abbrev visit_of : Edge → ℕ → MetaFile → Option (File Targets) → Order (File Targets)
  visit_of e now entry o = do
    file ← need_or (RoleMissing e.role entry.version) o
    check no.role_length (HasLength entry file.bytes)
    check no.role_hash (HasHash entry file.bytes)
    check no.role_threshold (MeetsEdge V e file)
    check no.role_expired (now < file.body.expires)
    give file

  visit_same : (e : Edge) (now : ℕ) (r : Judged (File Targets)) → visit V e now r → visit W e now r
  visit_same e now _ (decide h) = decide h
  visit_same e now _ (pass {a = entry} {r} h k) =
      pass h (subst (λ (o : Option (File Targets)). visit_of e now entry o r) (look_same listing rows more e.role entry same (needed _ (look_up listing e.role) entry h)) k)

  found_same : (role : Name) (o : Option Listing) (rest next : Order Found) → ((r : Judged Found) → rest r → next r) → (r : Judged Found)
      → found_or V role o rest r → found_or W role o next r
  found_same role (Some l) rest next so r h = h
  found_same role None rest next so r h = so r h

  find_same : (es : List Edge) (path : Bytes) (now : ℕ) (none : Order Found) (r : Judged Found) → find_in V es path now none r → find_in W es path now none r
  find_same [] path now none r h = h
  find_same (e ∷ es) path now none _ (decide h) = decide (visit_same e now _ h)
  find_same (e ∷ es) path now none _ (pass {a = file} {r} h k) =
      pass (visit_same e now (Ok file) h)
      (found_same e.role (listing_of file.body path) (find_in V es path now none) (find_in W es path now none) (λ q g. find_same es path now none q g) r k)

  -- so the search has the same end
  pub search_same : (path : Bytes) (now : ℕ) (r : Judged Found) → search V path now r → search W path now r
  search_same path now r h =
      subst (λ (es : List Edge). find_in W (take most_visits es) path now (denied (cond (nat_lt most_visits (length es)) no.too_many_roles no.not_found)) r) (visited_same path)
      (find_same (take most_visits (visited V path)) path now (denied (cond (nat_lt most_visits (length (visited V path))) no.too_many_roles no.not_found)) r h)
