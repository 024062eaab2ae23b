-- Verdicts over all edges of a shelf: how each step goes on, and what stands at the end.
use Rattle.std.proofs.Common.{◌≡◌, ◌≢◌, ◌↔◌, ℕ, ◌+◌, Bool, true, false, cond, List, [], ◌∷◌, ◌++◌, map, length, Option, Some, None, option_and_then, codes, refl, sym, ap, subst, ◌∙◌, ◌⊎◌, inl, inr, ⊎_elim, arith, IsTrue, Contains, bytes_eq}
use Rattle.std.specs.List.{AllByRecursion}
use Rattle.std.specs.List.Sorted.{IsStrictlySortedBy}
use Rattle.std.specs.declared.cmp.Ordering.TheVariants.{Less, Equal}
use Rattle.std.proofs.lemmas.Cmp.{nat_list_cmp_total, tied_itself}
use Rattle.std.proofs.lemmas.Slice.Eq.{bytes_eq-Decides}
use Rattle.keys_roles.specs.Plain.{look_up}
use Rattle.keys_roles.specs.Rules.{AreDistinct}
use Rattle.keys_roles.specs.Verdicts.{Pair, Verdict, AreVerdicts, is_known, pairs}
use Rattle.keys_roles.specs.steps.Counting.{IsIn}
use Rattle.keys_roles.proofs.Elements.{contains_in, in_contains, of_each, each_more, in_more, in_last, distinct_more, in_front, in_back, in_map}
use Rattle.document_parts.specs.Documents.{Targets, MetaFile, Delegation, Delegations}
use Rattle.metadata.specs.File.{Name, Names, File}
use Rattle.document_parts.specs.Sorted.{compared, AreInOrder}
use Rattle.delegations.specs.Delegation.{Edge}
use Rattle.delegations.specs.Rows.{Place, named_row}
use Rattle.delegations.specs.Search.{Shelf, doc, edge_of}
use Rattle.delegations.specs.Verdicts.{Table, IsEdge, IsWanted, verdict_count}
use Rattle.delegations.specs.steps.Gathering.{AreEdges, IsGathered, IsRow, AreGathered}

-- ---- the names of a listing

not_less : (a b : List ℕ) → compared a b ≡ Less → a ≢ b
not_less a b less same =
    let tied : compared b b ≡ Equal = tied_itself nat_list_cmp_total b in
    let below : compared b b ≡ Less = subst (λ (x : List ℕ). compared x b ≡ Less) same less in
    let no : Equal ≡ Less = sym tied ∙ below in
    absurd (cc)

others : {A : Type 0} (n : Name) (es : List (Name × A)) → AllByRecursion (λ y. compared (n ++ codes ".json") y ≡ Less) (map (λ e. e.0 ++ codes ".json") es)
    → AllByRecursion (λ y. n ≢ y) (map (λ e. e.0) es)
others n [] h = tt
others n (e ∷ es) h = (
  (λ same. not_less (n ++ codes ".json") (e.0 ++ codes ".json") h.0 (ap (λ (x : Name). x ++ codes ".json") same)),
  others n es h.1,
)

pub names_distinct : {A : Type 0} (es : List (Name × A)) → AreInOrder (map (λ e. e.0 ++ codes ".json") es) → AreDistinct (map (λ e. e.0) es)
unfolding IsStrictlySortedBy
names_distinct [] h = tt
names_distinct (e ∷ es) h = (others e.0 es h.0, names_distinct es h.1)

pub looked_in : {A : Type 0} (es : List (Name × A)) (role : Name) (a : A) → look_up es role ≡ Some a → IsIn (map (λ e. e.0) es) role
looked_in [] role a h = absurd (cc)
looked_in {A} (e ∷ es) role a h = split (bytes_eq e.0 role) refl (looked_in es role a) h
  where
    split : (b : Bool) → bytes_eq e.0 role ≡ b → (look_up es role ≡ Some a → IsIn (map (λ e. e.0) es) role) → cond b (Some e.1) (look_up es role) ≡ Some a
        → IsIn (map (λ e. e.0) (e ∷ es)) role
    split true same later k = inl ((bytes_eq-Decides e.0 role).0 same)
    split false same later k = inr (later k)

pub listed_names : {A B : Type 0} (view : A → B) (es : List (Name × A)) → map (λ (e : Name × B). e.0) (map (λ (e : Name × A). (e.0, view e.1)) es) ≡ map (λ (e : Name × A). e.0) es
listed_names view [] = refl
listed_names view (e ∷ es) = ap (λ (ns : Names). e.0 ∷ ns) (listed_names view es)

pub or_none : (P : Type 0) → P ⊎ ⊥ → P
or_none P (inl h) = h
or_none P (inr h) = absurd h

each_both : {X : Type 0} → (P : X → Type 0) (xs ys : List X) → AllByRecursion P xs → AllByRecursion P ys → AllByRecursion P (xs ++ ys)
each_both P [] ys h k = k
each_both P (x ∷ xs) ys h k = (h.0, each_both P xs ys h.1 k)

module _ (V : Shelf) where
  listed_doc : (role : Name) (file : File Targets) → doc V role ≡ Some file → IsIn (map (λ e. e.0) V.listing) role
  listed_doc role file h = split (look_up V.listing role) refl h
    where
      split : (o : Option MetaFile) → look_up V.listing role ≡ o → option_and_then (named_row V.rows role) o ≡ Some file → IsIn (map (λ e. e.0) V.listing) role
      split None is k = absurd (cc)
      split (Some m) is k = looked_in V.listing role m is

  -- ---- the edges

  pub first_edge : (left : Names) → map (λ e. e.0) V.listing ≡ left → AreEdges V left (V.top ∷ [])
  first_edge left names = record {
    each = (IsEdge.top, tt);
    top = inl refl;
    all = λ role file ds d there has listed. inr (subst (λ (ns : Names). IsIn ns role) names (listed_doc role file there));
  }

  fewer_left : (role name : Name) (left : Names) (P : Type 0) → (name ≡ role → P) → P ⊎ IsIn (role ∷ left) name → P ⊎ IsIn left name
  fewer_left role name left P here (inl h) = inl h
  fewer_left role name left P here (inr (inl h)) = inl (here (sym h))
  fewer_left role name left P here (inr (inr h)) = inr h

  one_doc : (role name : Name) (o : Option (File Targets)) (file : File Targets) → doc V role ≡ o → doc V name ≡ Some file → name ≡ role → Some file ≡ o
  one_doc role name o file is there same = sym there ∙ ap (doc V) same ∙ is

  pub no_document : (role : Name) (left : Names) (es : List Edge) → doc V role ≡ None → AreEdges V (role ∷ left) es → AreEdges V left es
  no_document role left es none a = record {
    each = a.each;
    top = a.top;
    all = λ name file ds d there has listed.
        fewer_left role name left (IsIn es (edge_of ds.keys d)) (λ same. absurd (let no = one_doc role name None file none there same in cc)) (a.all name file ds d there has listed);
  }

  pub no_delegations : (role : Name) (new : File Targets) (left : Names) (es : List Edge) → doc V role ≡ Some new → new.body.delegations ≡ None → AreEdges V (role ∷ left) es → AreEdges V left es
  no_delegations role new left es is none a = record {
    each = a.each;
    top = a.top;
    all = λ name file ds d there has listed.
        fewer_left role name left (IsIn es (edge_of ds.keys d))
        (λ same. absurd (
        let one : file ≡ new = (let k = one_doc role name (Some new) file is there same in cc) in
        let no : Some ds ≡ None = sym has ∙ ap (λ (f : File Targets). f.body.delegations) one ∙ none in
        cc
        ))
        (a.all name file ds d there has listed);
  }

  edges_each : (role : Name) (file : File Targets) (ds : Delegations) → doc V role ≡ Some file → file.body.delegations ≡ Some ds → (rest : List Delegation)
      → ((d : Delegation) → IsIn rest d → IsIn ds.roles d) → AllByRecursion (IsEdge V) (map (edge_of ds.keys) rest)
  edges_each role file ds there has [] inside = tt
  edges_each role file ds there has (d ∷ rest) inside = (
    IsEdge.onward role file ds d there has (contains_in ds.roles d (inside d (inl refl))),
    edges_each role file ds there has rest (λ e h. inside e (inr h)),
  )

  pub more_edges : (role : Name) (new : File Targets) (more : Delegations) (left : Names) (es : List Edge) → doc V role ≡ Some new → new.body.delegations ≡ Some more
      → AreEdges V (role ∷ left) es → AreEdges V left (es ++ map (edge_of more.keys) more.roles)
  more_edges role new more left es is are a = record {
    each = each_both (IsEdge V) es (map (edge_of more.keys) more.roles) a.each (edges_each role new more is are more.roles (λ d h. h));
    top = in_front es (map (edge_of more.keys) more.roles) V.top a.top;
    all = λ name file ds d there has listed.
        fewer_left role name left (IsIn (es ++ map (edge_of more.keys) more.roles) (edge_of ds.keys d))
        (λ same.
        let one : file ≡ new = (let k = one_doc role name (Some new) file is there same in cc) in
        let those : ds ≡ more = (let k : Some ds ≡ Some more = sym has ∙ ap (λ (f : File Targets). f.body.delegations) one ∙ are in cc) in
        in_back es (map (edge_of more.keys) more.roles) (edge_of ds.keys d)
        (subst (λ (x : Delegations). IsIn (map (edge_of x.keys) x.roles) (edge_of ds.keys d)) those (in_map (edge_of ds.keys) ds.roles d (in_contains ds.roles d listed))))
        (⊎_elim (λ h. inl (in_front es (map (edge_of more.keys) more.roles) (edge_of ds.keys d) h)) (λ h. inr h) (a.all name file ds d there has listed));
  }

  edge_in : (es : List Edge) (e : Edge) → AreEdges V [] es → IsEdge V e → IsIn es e
  edge_in es e a IsEdge.top = a.top
  edge_in es e a (IsEdge.onward role file ds d there has listed) = or_none (IsIn es (edge_of ds.keys d)) (a.all role file ds d there has listed)

  -- ---- the verdicts on one document

  module _ (role : Name) (file : File Targets) where
    pub no_verdicts : (es : List Edge) → AreEdges V [] es → IsGathered V role file es []
    no_verdicts es a = record {
      each = a.each;
      are = tt;
      distinct = tt;
      wanted = λ p h. absurd (cc);
      all = λ e p edge into listed. inr (edge_in es e a edge);
    }

    pub other_role : (e : Edge) (left : List Edge) (vs : List Verdict) → (e.role ≡ role → ⊥) → IsGathered V role file (e ∷ left) vs → IsGathered V role file left vs
    other_role e left vs other g = record {
      each = g.each.1;
      are = g.are;
      distinct = g.distinct;
      wanted = g.wanted;
      all = λ f p edge into listed. later f into (g.all f p edge into listed);
    }
      where
        later : (f : Edge) → f.role ≡ role → {P : Type 0} → P ⊎ IsIn (e ∷ left) f → P ⊎ IsIn left f
        later f into (inl h) = inl h
        later f into (inr (inl h)) = absurd (other (ap (λ (x : Edge). x.role) h ∙ into))
        later f into (inr (inr h)) = inr h

    pub with_edge : (e : Edge) (left : List Edge) (vs new : List Verdict) → doc V role ≡ Some file → e.role ≡ role
        → ((p : Pair) → IsTrue (is_known new p) ↔ (IsTrue (is_known vs p) ⊎ Contains (pairs e.rule e.table file.entries) p))
        → AreVerdicts file.signed file.entries new → AreDistinct (map (λ v. v.pair) new)
        → IsGathered V role file (e ∷ left) vs → IsGathered V role file left new
    with_edge e left vs new there into known are distinct g = record {
      each = g.each.1;
      are = are;
      distinct = distinct;
      wanted = λ p h. of p ((known p).0 h);
      all = λ f p edge to listed. later f p listed (g.all f p edge to listed);
    }
      where
        of : (p : Pair) → IsTrue (is_known vs p) ⊎ Contains (pairs e.rule e.table file.entries) p → IsWanted V role p
        of p (inl h) = g.wanted p h
        of p (inr h) = record { edge = e; file = file; is_edge = g.each.0; into = into; there = there; of = h }

        later : (f : Edge) (p : Pair) → Contains (pairs f.rule f.table file.entries) p → IsTrue (is_known vs p) ⊎ IsIn (e ∷ left) f → IsTrue (is_known new p) ⊎ IsIn left f
        later f p listed (inl h) = inl ((known p).1 (inl h))
        later f p listed (inr (inl h)) = inl ((known p).1 (inr (subst (λ (x : Edge). Contains (pairs x.rule x.table file.entries) p) (sym h) listed)))
        later f p listed (inr (inr h)) = inr h

  -- ---- the rows of a table

  pub no_rows : (left : Names) → AreDistinct left → map (λ e. e.0) V.listing ≡ left → AreGathered V left []
  no_rows left apart names = record {
    apart = apart;
    rows = tt;
    distinct = tt;
    fresh = tt;
    all = λ role file there. inr (subst (λ (ns : Names). IsIn ns role) names (listed_doc role file there));
  }

  fresh_on : (role : Name) (left : Names) (T : Table) → AllByRecursion (λ row. IsIn (role ∷ left) row.0.0 → ⊥) T → AllByRecursion (λ row. IsIn left row.0.0 → ⊥) T
  fresh_on role left [] h = tt
  fresh_on role left (row ∷ T) h = ((λ k. h.0 (inr k)), fresh_on role left T h.1)

  pub no_row : (role : Name) (left : Names) (T : Table) → doc V role ≡ None → AreGathered V (role ∷ left) T → AreGathered V left T
  no_row role left T none a = record {
    apart = a.apart.1;
    rows = a.rows;
    distinct = a.distinct;
    fresh = fresh_on role left T a.fresh;
    all = λ name file there.
        fewer_left role name left (IsIn (map (λ row. row.0.0) T) name) (λ same. absurd (let no = one_doc role name None file none there same in cc)) (a.all name file there);
  }

  roles_more : (T : Table) (row : Place × List Verdict) → map (λ r. r.0.0) (T ++ row ∷ []) ≡ map (λ r. r.0.0) T ++ row.0.0 ∷ []
  roles_more [] row = refl
  roles_more (r ∷ T) row = ap (λ (ns : Names). r.0.0 ∷ ns) (roles_more T row)

  not_yet : (left : Names) (name : Name) (T : Table) → IsIn left name → AllByRecursion (λ row. IsIn left row.0.0 → ⊥) T → IsIn (map (λ row. row.0.0) T) name → ⊥
  not_yet left name [] there h k = k
  not_yet left name (row ∷ T) there h (inl k) = h.0 (subst (IsIn left) (sym k) there)
  not_yet left name (row ∷ T) there h (inr k) = not_yet left name T there h.1 k

  not_later : (role : Name) (left : Names) → AllByRecursion (λ n. role ≢ n) left → IsIn left role → ⊥
  not_later role left apart h = of_each (λ n. role ≢ n) left role apart h refl

  pub roles_distinct : (role : Name) (left : Names) (T : Table) (row : Place × List Verdict) → row.0.0 ≡ role → AreGathered V (role ∷ left) T → AreDistinct (map (λ r. r.0.0) (T ++ row ∷ []))
  roles_distinct role left T row named a =
      subst AreDistinct (sym (roles_more T row)) (distinct_more (map (λ r. r.0.0) T) row.0.0 a.distinct (not_yet (role ∷ left) row.0.0 T (inl (sym named)) a.fresh))

  pub with_row : (role : Name) (left : Names) (T : Table) (row : Place × List Verdict) → IsRow V row → row.0.0 ≡ role → AreGathered V (role ∷ left) T → AreGathered V left (T ++ row ∷ [])
  with_row role left T row is named a = record {
    apart = a.apart.1;
    rows = each_more (IsRow V) T row a.rows is;
    distinct = roles_distinct role left T row named a;
    fresh = each_more (λ r. IsIn left r.0.0 → ⊥) T row (fresh_on role left T a.fresh) (λ h. not_later role left a.apart.0 (subst (IsIn left) named h));
    all = λ name file there.
        fewer_left role name left (IsIn (map (λ r. r.0.0) (T ++ row ∷ [])) name)
        (λ same. subst (λ (ns : Names). IsIn ns name) (sym (roles_more T row)) (subst (λ (n : Name). IsIn (map (λ r. r.0.0) T ++ row.0.0 ∷ []) n) (named ∙ sym same) (in_last (map (λ r. r.0.0) T) row.0.0)))
        (⊎_elim (λ h. inl (subst (λ (ns : Names). IsIn ns name) (sym (roles_more T row)) (in_more (map (λ r. r.0.0) T) row.0.0 name h))) (λ h. inr h) (a.all name file there));
  }

pub count_more : (T : Table) (row : Place × List Verdict) → verdict_count (T ++ row ∷ []) ≡ verdict_count T + length row.1
count_more [] row = omega arith
count_more (r ∷ T) row = let more = count_more T row in omega (arith, more)
