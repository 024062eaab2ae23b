-- The ways that the stopping walk takes: each beginning of a way is a way that was taken before it.
use Rattle.std.proofs.Common.{◌≡◌, ℕ, zero, suc, ◌<◌, ◌||◌, List, [], ◌∷◌, ◌++◌, map, length, take, Some, None, refl, sym, ap, subst, ◌⊎◌, inl, inr, arith, nat_lt, slice_index_or}
use Rattle.std.specs.Prelude.{Contains}
use Rattle.std.proofs.lemmas.Bool.{ltb-true, ltb-false}
use Rattle.std.proofs.lemmas.List.{take_all}
use Rattle.metadata.specs.File.{Names, has_name}
use Rattle.delegations.specs.Delegation.{Edge, Hops, Graph, hops, visits}
use Rattle.delegations.proofs.Complete.{In, in_contains}
use Rattle.delegations.proofs.Cuts.{Stopped, stop_hops, stop_walk, walk_visits}
use Rattle.delegations.proofs.Walk.{Way, deeper, by_test}

-- after the ways `done`, each way of the list has its beginnings before it
abbrev pub Rooted : List (List ℕ) → List Way → Type 0
Rooted done [] = Unit {0}
Rooted done (w ∷ ws) = ((k : ℕ) → k < length w.0 → In (take k w.0) done) × Rooted (w.0 ∷ done) ws

rooted-append : (done : List (List ℕ)) (xs ys : List Way) → In [] done → Rooted done xs → ((more : List (List ℕ)) → In [] more → Rooted more ys) → Rooted done (xs ++ ys)
rooted-append done [] ys root h k = k done root
rooted-append done (x ∷ xs) ys root h k = (h.0, rooted-append (x.0 ∷ done) xs ys (inr root) h.1 k)

rooted-deeper : (i : ℕ) (done more : List (List ℕ)) (ws : List Way) → In [] more → ((c : List ℕ) → In c done → In (i ∷ c) more) → Rooted done ws → Rooted more (map (deeper i) ws)
rooted-deeper i done more [] root over h = tt
rooted-deeper i done more (w ∷ ws) root over h = (begins, rooted-deeper i (w.0 ∷ done) ((i ∷ w.0) ∷ more) ws (inr root) wider h.1)
  where
    begins : (k : ℕ) → k < suc (length w.0) → In (take k (i ∷ w.0)) more
    begins zero less = root
    begins (suc k) less = over (take k w.0) (h.0 k (omega (arith, less)))

    wider : (c : List ℕ) → In c (w.0 ∷ done) → In (i ∷ c) ((i ∷ w.0) ∷ more)
    wider c (inl same) = inl (ap (λ d. i ∷ d) same)
    wider c (inr there) = inr (over c there)

rooted_hops : (go : Names → Edge → Stopped) → ((met : Names) (e : Edge) → Rooted [] (go met e).ways)
    → (hs : Hops) (i : ℕ) (met : Names) (done : List (List ℕ)) → In [] done → Rooted done (stop_hops go i hs met).ways
rooted_hops go each [] i met done root = tt
rooted_hops go each (None ∷ hs) i met done root = rooted_hops go each hs (suc i) met done root
rooted_hops go each (Some e ∷ hs) i met done root = by_test (has_name met e.role)
    (λ there. by_test e.terminating
    (λ last. rw (there, last) tt)
    (λ more. rw (there, more) (rooted_hops go each hs (suc i) met done root)))
    (λ off. by_test ((go met e).stop || e.terminating)
    (λ last. rw (off, last) below)
    (λ more. rw (off, more) (rooted-append done (map (deeper i) (go met e).ways) (stop_hops go (suc i) hs (go met e).met).ways root below
    (λ wider there. rooted_hops go each hs (suc i) (go met e).met wider there))))
  where
    below : Rooted done (map (deeper i) (go met e).ways)
    below = rooted-deeper i [] done (go met e).ways root (λ c h. absurd h) (each met e)

rooted_walk : (g : Graph) (n : ℕ) (met : Names) (e : Edge) → Rooted [] (stop_walk g n met e).ways
rooted_walk g zero met e = (λ k less. absurd (omega (arith, less)), tt)
rooted_walk g (suc n) met e =
    (λ k less. absurd (omega (arith, less)), rooted_hops (stop_walk g n) (λ m f. rooted_walk g n m f) (hops g e.role) zero (e.role ∷ met) ([] ∷ []) (inl refl))

-- the ways of a search at one path, from the top role
abbrev pub taken_ways : Graph → List Way
taken_ways g = (stop_walk g (length g.rows) [] g.root).ways

pub all_rooted : (g : Graph) → Rooted [] (taken_ways g)
all_rooted g = rooted_walk g (length g.rows) [] g.root

-- ---- the visits have their beginnings

contains_in : (c : List ℕ) (cs : List (List ℕ)) (n : ℕ) → n < length cs → slice_index_or cs n c ≡ c → In c cs
contains_in c [] n less at = absurd (omega (arith, less))
contains_in c (d ∷ cs) zero less at = inl at
contains_in c (d ∷ cs) (suc n) less at = inr (contains_in c cs n (omega (arith, less)) at)

beginning : (done : List (List ℕ)) (ws : List Way) (c : List ℕ) (k : ℕ) → Rooted done ws → In c (map (λ w. w.0) ws) → k < length c
    → In (take k c) done ⊎ In (take k c) (map (λ w. w.0) ws)
beginning done [] c k h there less = absurd there
beginning done (w ∷ ws) c k h (inl same) less =
    inl (subst (λ d. In (take k d) done) same (h.0 k (subst (λ d. k < length d) (sym same) less)))
beginning done (w ∷ ws) c k h (inr there) less = moved (beginning (w.0 ∷ done) ws c k h.1 there less)
  where
    moved : In (take k c) (w.0 ∷ done) ⊎ In (take k c) (map (λ v. v.0) ws) → In (take k c) done ⊎ In (take k c) (map (λ v. v.0) (w ∷ ws))
    moved (inl (inl is)) = inr (inl is)
    moved (inl (inr is)) = inl is
    moved (inr is) = inr (inr is)

begun : (cs : List (List ℕ)) (ws : List Way) → map (λ w. w.0) ws ≡ cs → Rooted [] ws → (c : List ℕ) (k : ℕ) → In c cs → k < length c → In (take k c) cs
begun cs ws are h c k there less = subst (λ ds. In (take k c) ds) are (of (beginning [] ws c k h (subst (λ ds. In c ds) (sym are) there) less))
  where
    of : In (take k c) [] ⊎ In (take k c) (map (λ w. w.0) ws) → In (take k c) (map (λ w. w.0) ws)
    of (inl is) = absurd is
    of (inr is) = is

pub prefixes : (g : Graph) (c : List ℕ) (k : ℕ) → Contains (visits g) c → Contains (visits g) (take k c)
prefixes g c k (n, less, at) =
    let there : In c (visits g) = contains_in c (visits g) n less at in
    by_test (nat_lt k (length c))
    (λ t. in_contains (take k c) (visits g) (begun (visits g) (taken_ways g) (walk_visits g) (all_rooted g) c k there (ltb-true k (length c) t)))
    (λ t. subst (λ d. Contains (visits g) d) (sym (take_all k c (ltb-false k (length c) t))) (n, less, at))
