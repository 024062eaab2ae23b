-- Over a table that holds each wanted pair, a search checks no signature.
use Rattle.std.proofs.Common.{◌≡◌, ◌≢◌, ℕ, zero, suc, Bool, true, false, cond, not, List, [], ◌∷◌, ◌++◌, map, length, filter, slice_get, Option, Some, None, option_map, option_and_then, unwrap_or, refl, sym, ap, subst, ◌∙◌, inl, inr, arith, IsTrue, bytes_eq}
use Rattle.std.specs.List.{AllByRecursion, cons_option, filter_map}
use Rattle.std.proofs.lemmas.Slice.Eq.{bytes_eq-Decides}
use Rattle.keys_roles.specs.Plain.{look_up}
use Rattle.keys_roles.specs.Rules.{AreDistinct}
use Rattle.keys_roles.specs.Verdicts.{Pair, Verdict, is_known, pairs, unknown}
use Rattle.keys_roles.specs.steps.Counting.{IsIn}
use Rattle.keys_roles.proofs.Elements.{contains_in, of_each}
use Rattle.document_parts.specs.Covers.{covers}
use Rattle.document_parts.specs.Documents.{Targets, MetaFile, Delegation, Delegations}
use Rattle.metadata.specs.File.{Bytes, Name, Names, File}
use Rattle.delegations.specs.Delegation.{Edge, Hops, chain_end, hops_in, leads, visits}
use Rattle.delegations.specs.Rows.{named_row}
use Rattle.delegations.specs.Search.{Shelf, doc, edge_of, graph_of, hops_of, visited}
use Rattle.delegations.specs.Verdicts.{Table, IsEdge, IsComplete, AreFew, Costs, known_of, lacking, all_lacking}
use Rattle.delegations.proofs.Complete.{has_hop}
use Rattle.delegations.proofs.Gathered.{looked_in}

-- a delegation after a hop
record IsHop (ds : Delegations) (e : Edge) : Type 0 where
  pub d : Delegation
  pub listed : IsIn ds.roles d
  pub is : edge_of ds.keys d ≡ e

hop_in : (test : Delegation → Bool) (ds : Delegations) (rest : List Delegation) (i : ℕ) (e : Edge) → ((d : Delegation) → IsIn rest d → IsIn ds.roles d)
    → slice_get (map (λ d. cond (test d) (Some (edge_of ds.keys d)) None) rest) i ≡ Some (Some e) → IsHop ds e
hop_in test ds [] i e inside at = absurd (cc)
hop_in test ds (d ∷ rest) zero e inside at = split (test d) at
  where
    split : (b : Bool) → Some (cond b (Some (edge_of ds.keys d)) None) ≡ Some (Some e) → IsHop ds e
    split true k = record { d = d; listed = inside d (inl refl); is = cc }
    split false k = absurd (cc)
hop_in test ds (d ∷ rest) (suc i) e inside at = hop_in test ds rest i e (λ x h. inside x (inr h)) at

-- the document whose delegations a graph has for a role
record IsRowFor (V : Shelf) (es : List (Name × MetaFile)) (role : Name) (e : Edge) : Type 0 where
  pub entry : MetaFile
  pub file : File Targets
  pub ds : Delegations
  pub listed : look_up es role ≡ Some entry
  pub named : named_row V.rows role entry ≡ Some file
  pub has : file.body.delegations ≡ Some ds
  pub hop : IsHop ds e

module _ (V : Shelf) (test : Delegation → Bool) where
  abbrev rows_of : List (Name × MetaFile) → List (Name × Hops)
  rows_of es = filter_map (λ m. option_map (λ file. (m.0, hops_of test file.body.delegations)) (named_row V.rows m.0 m.1)) es

  of_document : (es : List (Name × MetaFile)) (role : Name) (i : ℕ) (e : Edge) (entry : MetaFile) (file : File Targets) → look_up es role ≡ Some entry → named_row V.rows role entry ≡ Some file
      → (o : Option Delegations) → file.body.delegations ≡ o → slice_get (hops_of test o) i ≡ Some (Some e) → IsRowFor V es role e
  of_document es role i e entry file listed named None has at = absurd (cc)
  of_document es role i e entry file listed named (Some ds) has at =
      record { entry = entry; file = file; ds = ds; listed = listed; named = named; has = has; hop = hop_in test ds ds.roles i e (λ d h. h) at }

  later_row : (m : Name × MetaFile) (es : List (Name × MetaFile)) (role : Name) (e : Edge) → bytes_eq m.0 role ≡ false → IsRowFor V es role e → IsRowFor V (m ∷ es) role e
  later_row m es role e other r =
      record { entry = r.entry; file = r.file; ds = r.ds; listed = ap (λ (b : Bool). cond b (Some m.1) (look_up es role)) other ∙ r.listed; named = r.named; has = r.has; hop = r.hop }

  not_again : (m : Name × MetaFile) (es : List (Name × MetaFile)) (role : Name) (e : Edge) → AllByRecursion (λ n. m.0 ≢ n) (map (λ x. x.0) es) → bytes_eq m.0 role ≡ true → IsRowFor V es role e → ⊥
  not_again m es role e others same r =
      of_each (λ n. m.0 ≢ n) (map (λ x. x.0) es) role others (looked_in es role r.entry r.listed) ((bytes_eq-Decides m.0 role).0 same)

  row_for : (es : List (Name × MetaFile)) (role : Name) (i : ℕ) (e : Edge) → AreDistinct (map (λ m. m.0) es) → slice_get (hops_in (rows_of es) role) i ≡ Some (Some e) → IsRowFor V es role e
  row_for [] role i e distinct at = absurd (cc)
  row_for (m ∷ es) role i e distinct at = split (bytes_eq m.0 role) refl (named_row V.rows m.0 m.1) refl (row_for es role i e distinct.1) at
    where
      split : (b : Bool) → bytes_eq m.0 role ≡ b → (o : Option (File Targets)) → named_row V.rows m.0 m.1 ≡ o → (slice_get (hops_in (rows_of es) role) i ≡ Some (Some e) → IsRowFor V es role e)
          → slice_get (hops_in (cons_option (option_map (λ file. (m.0, hops_of test file.body.delegations)) o) (rows_of es)) role) i ≡ Some (Some e) → IsRowFor V (m ∷ es) role e
      split true same None is later k = absurd (not_again m es role e distinct.0 same (later k))
      split false other None is later k = later_row m es role e other (later k)
      split true same (Some file) is later k =
          let name : m.0 ≡ role = (bytes_eq-Decides m.0 role).0 same in
          of_document (m ∷ es) role i e m.1 file (ap (λ (b : Bool). cond b (Some m.1) (look_up es role)) same) (ap (λ (n : Name). named_row V.rows n m.1) (sym name) ∙ is)
          file.body.delegations refl (subst (λ (b : Bool). slice_get (cond b (hops_of test file.body.delegations) (hops_in (rows_of es) role)) i ≡ Some (Some e)) same k)
      split false other (Some file) is later k =
          later_row m es role e other (later (subst (λ (b : Bool). slice_get (cond b (hops_of test file.body.delegations) (hops_in (rows_of es) role)) i ≡ Some (Some e)) other k))

  -- each edge that a chain leads to is an edge of the shelf
  hop_edge : (role : Name) (i : ℕ) (e : Edge) → AreDistinct (map (λ m. m.0) V.listing) → slice_get (hops_in (rows_of V.listing) role) i ≡ Some (Some e) → IsEdge V e
  hop_edge role i e distinct at =
      let r = row_for V.listing role i e distinct at in
      subst (IsEdge V) r.hop.is
      (IsEdge.onward role r.file r.ds r.hop.d (ap (option_and_then (named_row V.rows role)) r.listed ∙ r.named) r.has (contains_in r.ds.roles r.hop.d r.hop.listed))

  leads_edge : (seen : Names) (e : Edge) (c : List ℕ) (last : Edge) → AreDistinct (map (λ m. m.0) V.listing) → IsEdge V e → leads (graph_of V test) seen e c ≡ Some last → IsEdge V last
  leads_edge seen e [] last distinct edge h = (let is : e ≡ last = cc in subst (IsEdge V) is edge)
  leads_edge seen e (i ∷ c) last distinct edge h =
      let hop = has_hop (graph_of V test) seen e i c last h in
      leads_edge (e.role ∷ seen) hop.next c last distinct (hop_edge e.role i hop.next distinct hop.at) hop.rest

  all_edges : (cs : List (List ℕ)) → AreDistinct (map (λ m. m.0) V.listing) → AllByRecursion (IsEdge V) (filter_map (chain_end (graph_of V test)) cs)
  all_edges [] distinct = tt
  all_edges (c ∷ cs) distinct = split (chain_end (graph_of V test) c) refl (all_edges cs distinct)
    where
      split : (o : Option Edge) → chain_end (graph_of V test) c ≡ o → AllByRecursion (IsEdge V) (filter_map (chain_end (graph_of V test)) cs)
          → AllByRecursion (IsEdge V) (cons_option o (filter_map (chain_end (graph_of V test)) cs))
      split None is later = later
      split (Some e) is later = (leads_edge [] V.top c e distinct IsEdge.top is, later)

front_all : {X : Type 0} → (P : X → Type 0) (xs ys : List X) → AllByRecursion P (xs ++ ys) → AllByRecursion P xs
front_all P [] ys h = tt
front_all P (x ∷ xs) ys h = (h.0, front_all P xs ys h.1)

none_unknown : (known : List Verdict) (ps : List Pair) → ((p : Pair) → IsIn ps p → IsTrue (is_known known p)) → unknown known ps ≡ 0
none_unknown known [] h = refl
none_unknown known (p ∷ ps) h = split (is_known known p) (h p (inl refl)) (none_unknown known ps (λ q k. h q (inr k)))
  where
    split : (b : Bool) → IsTrue b → unknown known ps ≡ 0 → length (cond (not b) (p ∷ filter (λ q. not (is_known known q)) ps) (filter (λ q. not (is_known known q)) ps)) ≡ 0
    split true t later = later
    split false t later = absurd (cc)

module _ (V : Shelf) (T : Table) (few : AreFew V) (complete : IsComplete V T) where
  none_lacking : (e : Edge) → IsEdge V e → lacking V T e ≡ 0
  none_lacking e edge = split (doc V e.role) refl
    where
      split : (o : Option (File Targets)) → doc V e.role ≡ o → unwrap_or (option_map (λ file. unknown (known_of V T e.role) (pairs e.rule e.table file.entries)) o) 0 ≡ 0
      split None is = refl
      split (Some file) is =
          none_unknown (known_of V T e.role) (pairs e.rule e.table file.entries)
          (λ p there. complete few e.role p (record { edge = e; file = file; is_edge = edge; into = refl; there = is; of = contains_in (pairs e.rule e.table file.entries) p there }))

  none_of_all : (es : List Edge) → AllByRecursion (IsEdge V) es → all_lacking V T es ≡ 0
  none_of_all [] h = refl
  none_of_all (e ∷ es) h = let here = none_lacking e h.0 in let later = none_of_all es h.1 in omega (arith, here, later)

  pub free : (path : Bytes) (now count : ℕ) → AreDistinct (map (λ m. m.0) V.listing) → Costs V T path now count → count ≡ 0
  free path now count distinct costs =
      let g = graph_of V (λ d. covers d path) in
      let each : AllByRecursion (IsEdge V) (visited V path) = all_edges V (λ d. covers d path) (visits g) distinct in
      let none = none_of_all costs.edges (front_all (IsEdge V) costs.edges costs.visited.rest (subst (AllByRecursion (IsEdge V)) costs.visited.first each)) in
      let most = costs.most in
      omega (arith, none, most)
