-- The search is decided by the edges of the stopping walk from the top role.
use Rattle.std.proofs.Common.{◌≡◌, ℕ, zero, suc, cond, List, [], ◌∷◌, ◌++◌, map, length, take, Option, Err, refl, ap, sym, ◌∙◌, subst, arith, append-nil, filter_map, nat_lt}
use Rattle.std.proofs.lemmas.Bool.{lt-ltb, le-ltb}
use Rattle.metadata.specs.File.{Bytes}
use Rattle.denials.specs.Numbers as no
use Rattle.denials.specs.Orders.{Judged, Denied, Plain, denied, stopped}
use Rattle.delegations.specs.Delegation.{Edge, Graph, chain_end, visits}
use Rattle.delegations.specs.Search.{Shelf, Found, search, find_in, most_visits}
use Rattle.delegations.proofs.Walk.{Way, walk, walk_fresh, deep, all_unmet, within-self}
use Rattle.delegations.proofs.Chains.{all_ways}
use Rattle.delegations.proofs.Firsts.{LeadTo, all-lead}
use Rattle.delegations.proofs.Cuts.{stop_walk, stops, walk_visits, lead-fresh}
use Rattle.delegations.specs.steps.Course.{here, Decides, Exhausts, Passes}

lead-front : (to : List ℕ → Option Edge) (xs ys : List Way) → LeadTo to (xs ++ ys) → LeadTo to xs
lead-front to [] ys h = tt
lead-front to (x ∷ xs) ys h = (h.0, lead-front to xs ys h.1)

ends : (to : List ℕ → Option Edge) (ws : List Way) → LeadTo to ws → filter_map to (map (λ w. w.0) ws) ≡ map (λ w. w.1) ws
ends to [] h = refl
ends to (w ∷ ws) h = rw (h.0) (ap (λ r. w.1 ∷ r) (ends to ws h.1))

-- the edges by which the stopping walk visits
abbrev pub walked_edges : Graph → List Edge
walked_edges g = map (λ w. w.1) (stop_walk g (length g.rows) [] g.root).ways

-- and its ways lead to these edges
pub all_lead_to : (g : Graph) → LeadTo (chain_end g) (stop_walk g (length g.rows) [] g.root).ways
all_lead_to g =
    let r = stops g (length g.rows) [] [] g.root (deep g (length g.rows) [] (all_unmet g.rows)) (within-self []) refl in
    let lead : LeadTo (chain_end g) (walk g (length g.rows) [] g.root).ways = subst (λ ws. LeadTo (chain_end g) ws) (sym (walk_fresh g)) (lead-fresh (chain_end g) [] (all_ways g) (all-lead g)) in
    lead-front (chain_end g) (stop_walk g (length g.rows) [] g.root).ways r.rest (subst (λ ws. LeadTo (chain_end g) ws) r.split lead)

pub edges_are : (g : Graph) → filter_map (chain_end g) (visits g) ≡ walked_edges g
edges_are g =
    ap (λ cs. filter_map (chain_end g) cs) (sym (walk_visits g))
    ∙ ends (chain_end g) (stop_walk g (length g.rows) [] g.root).ways (all_lead_to g)

module _ (V : Shelf) (path : Bytes) (now : ℕ) where
  -- the denial where none of the visits decides
  abbrev pub last_number : List Edge → ℕ
  last_number es = cond (nat_lt most_visits (length es)) no.too_many_roles no.not_found

  from_edges : (j : Judged Found) → find_in V (take most_visits (walked_edges (here V path) ++ [])) path now (denied (last_number (walked_edges (here V path)))) j → search V path now j
  from_edges j h =
      let P : List Edge → Type 0 = λ es. find_in V (take most_visits es) path now (denied (last_number es)) j in
      let Q : List Edge → Type 0 = λ es. find_in V (take most_visits es) path now (denied (last_number (walked_edges (here V path)))) j in
      subst P (sym (edges_are (here V path))) (subst Q (append-nil (walked_edges (here V path))) h)

  none_left : (k n : ℕ) → find_in V (take k []) path now (denied n) (Err (Denied (Plain n)))
  none_left zero n = stopped
  none_left (suc k) n = stopped

  -- what decides among the first visits is the search's answer
  pub decided : (j : Judged Found) → Decides V path now most_visits (walked_edges (here V path)) j → search V path now j
  decided j d = from_edges j (d [] (last_number (walked_edges (here V path))))

  pub too_many : Exhausts V path now most_visits (walked_edges (here V path)) → search V path now (Err (Denied (Plain no.too_many_roles)))
  too_many d =
      let is : last_number (walked_edges (here V path)) ≡ no.too_many_roles = ap (λ b. cond b no.too_many_roles no.not_found) (lt-ltb most_visits (length (walked_edges (here V path))) d.many) in
      subst (λ n. search V path now (Err (Denied (Plain n)))) is
      (from_edges (Err (Denied (Plain (last_number (walked_edges (here V path)))))) (d.on [] (last_number (walked_edges (here V path)))))

  pub none_found : (left : ℕ) → Passes V path now most_visits (walked_edges (here V path)) left → search V path now (Err (Denied (Plain no.not_found)))
  none_found left d =
      let is : last_number (walked_edges (here V path)) ≡ no.not_found = ap (λ b. cond b no.too_many_roles no.not_found) (le-ltb most_visits (length (walked_edges (here V path))) (omega (arith, d.used))) in
      subst (λ n. search V path now (Err (Denied (Plain n)))) is
      (from_edges (Err (Denied (Plain (last_number (walked_edges (here V path)))))) (d.on [] (last_number (walked_edges (here V path))) (Err (Denied (Plain (last_number (walked_edges (here V path)))))) (none_left left (last_number (walked_edges (here V path))))))
