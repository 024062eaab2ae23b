-- The stopping walk takes a course.
use Rattle.std.proofs.Common.{⊎_elim, ◌≡◌, ℕ, zero, suc, Bool, true, false, cond, ◌||◌, List, [], ◌∷◌, ◌++◌, map, length, Some, None, refl, ap, sym, subst}
use Rattle.metadata.specs.File.{Names, has_name}
use Rattle.delegations.specs.Delegation.{Edge, Hops, Graph, hops}
use Rattle.delegations.specs.steps.Course.{Course, Goes, stays, ended, on, done, uncovered, known, known_last, new, new_last}
use Rattle.delegations.proofs.Walk.{Way, deeper, by_test, Deep, Within, outside, within-both, within-grow, within-self, deep, all_unmet}
use Rattle.delegations.proofs.Cuts.{Stopped, stopped_at, then_on, stop_hops, stop_walk}

abbrev pub ends : List Way → List Edge
ends ws = map (λ w. w.1) ws

abbrev pub course : Stopped → Course
course s = record { edges = ends s.ways; met = s.met; stop = s.stop }

ends-deeper : (i : ℕ) (ws : List Way) → ends (map (deeper i) ws) ≡ ends ws
ends-deeper i [] = refl
ends-deeper i (w ∷ ws) = ap (λ r. w.1 ∷ r) (ends-deeper i ws)

ends-append : (xs ys : List Way) → ends (xs ++ ys) ≡ ends xs ++ ends ys
ends-append [] ys = refl
ends-append (w ∷ ws) ys = ap (λ r. w.1 ∷ r) (ends-append ws ys)

-- below the edge the walk takes a course
pub record Below (g : Graph) (met : Names) (e : Edge) (s : Stopped) : Type 0 where
  pub under : Course
  pub goes : Goes g (hops g e.role) (e.role ∷ met) under
  pub edges : ends s.ways ≡ e ∷ under.edges
  pub met_is : s.met ≡ under.met
  pub stop_is : s.stop ≡ under.stop
  pub wider : Within met s.met

first_of : {A : Type 0} (b : Bool) (x y : A) → b ≡ true → cond b x y ≡ x
first_of b x y h = ap (λ t. cond t x y) h

second_of : {A : Type 0} (b : Bool) (x y : A) → b ≡ false → cond b x y ≡ y
second_of b x y h = ap (λ t. cond t x y) h

record Along (g : Graph) (hs : Hops) (met : Names) (s : Stopped) : Type 0 where
  pub goes : Goes g hs met (course s)
  pub wider : Within met s.met

along : (g : Graph) (go : Names → Edge → Stopped) (path : Names)
    → ((met : Names) (e : Edge) → Within path met → has_name met e.role ≡ false → Below g met e (go met e))
    → (hs : Hops) (i : ℕ) (met : Names) → Within path met → Along g hs met (stop_hops go i hs met)
along g go path each [] i met inside = record { goes = done; wider = within-self met }
along g go path each (None ∷ hs) i met inside =
    let r = along g go path each hs (suc i) met inside in record { goes = uncovered r.goes; wider = r.wider }
along g go path each (Some e ∷ hs) i met inside =
    let C : Stopped → Type 0 = λ s. Along g (Some e ∷ hs) met s in
    let halt : Stopped = record { ways = []; met = met; stop = true } in
    let skip : Stopped = stop_hops go (suc i) hs met in
    let old : Stopped = cond e.terminating halt skip in
    let last_one : Stopped = stopped_at i (go met e) in
    let more_ones : Stopped = then_on i (go met e) (stop_hops go (suc i) hs (go met e).met) in
    let fresh_one : Stopped = cond ((go met e).stop || e.terminating) last_one more_ones in
    by_test (has_name met e.role)
    (λ there. subst C (sym (first_of (has_name met e.role) old fresh_one there)) (by_test e.terminating
    (λ last. subst C (sym (first_of e.terminating halt skip last)) (record { goes = known_last there last; wider = within-self met }))
    (λ more. let r = along g go path each hs (suc i) met inside in subst C (sym (second_of e.terminating halt skip more)) (record { goes = known there more r.goes; wider = r.wider }))))
    (λ off. let b = each met e inside off in subst C (sym (second_of (has_name met e.role) old fresh_one off)) (by_test ((go met e).stop || e.terminating)
    (λ last. subst C (sym (first_of ((go met e).stop || e.terminating) last_one more_ones last)) (stopped off b last))
    (λ more. subst C (sym (second_of ((go met e).stop || e.terminating) last_one more_ones more)) (going off b more (along g go path each hs (suc i) (go met e).met (λ w h. b.wider w (inside w h)))))))
  where
    stopped : has_name met e.role ≡ false → (b : Below g met e (go met e)) → ((go met e).stop || e.terminating) ≡ true → Along g (Some e ∷ hs) met (stopped_at i (go met e))
    stopped off b last =
        let is : course (stopped_at i (go met e)) ≡ ended e b.under = rw (ends-deeper i (go met e).ways, b.edges, b.met_is) refl in
        record {
          goes = subst (λ c. Goes g (Some e ∷ hs) met c) (sym is) (new_last off b.goes (subst (λ t. (t || e.terminating) ≡ true) b.stop_is last));
          wider = b.wider;
        }

    going : has_name met e.role ≡ false → (b : Below g met e (go met e)) → ((go met e).stop || e.terminating) ≡ false
        → Along g hs (go met e).met (stop_hops go (suc i) hs (go met e).met)
        → Along g (Some e ∷ hs) met (then_on i (go met e) (stop_hops go (suc i) hs (go met e).met))
    going off b more r =
        let rest : Stopped = stop_hops go (suc i) hs (go met e).met in
        let is : course (then_on i (go met e) rest) ≡ on e b.under (course rest) = rw (ends-append (map (deeper i) (go met e).ways) rest.ways, ends-deeper i (go met e).ways, b.edges) refl in
        record {
          goes = subst (λ c. Goes g (Some e ∷ hs) met c) (sym is) (new off b.goes (subst (λ t. (t || e.terminating) ≡ false) b.stop_is more) (subst (λ m. Goes g hs m (course rest)) b.met_is r.goes));
          wider = λ w h. r.wider w (b.wider w h);
        }

pub goes_down : (g : Graph) (n : ℕ) (above met : Names) (e : Edge) → Deep g n above → Within above met → has_name met e.role ≡ false → Below g met e (stop_walk g n met e)
goes_down g zero above met e far inside off =
    let none : hops g e.role ≡ [] = far e.role (outside above met e.role inside off) in
    record {
      under = stays (e.role ∷ met) false;
      goes = rw none done;
      edges = refl;
      met_is = refl;
      stop_is = refl;
      wider = within-grow met met e.role (within-self met);
    }
goes_down g (suc n) above met e far inside off =
    ⊎_elim leaf (λ d. inner (along g (stop_walk g n) (e.role ∷ above) (λ met' e' in' off'. goes_down g n (e.role ∷ above) met' e' d in' off') (hops g e.role) zero (e.role ∷ met) (within-both above met e.role inside)))
    (far e.role (outside above met e.role inside off))
  where
    leaf : hops g e.role ≡ [] → Below g met e (stop_walk g (suc n) met e)
    leaf none = record {
      under = stays (e.role ∷ met) false;
      goes = rw none done;
      edges = rw none refl;
      met_is = rw none refl;
      stop_is = rw none refl;
      wider = rw none (within-grow met met e.role (within-self met));
    }

    inner : Along g (hops g e.role) (e.role ∷ met) (stop_hops (stop_walk g n) zero (hops g e.role) (e.role ∷ met)) → Below g met e (stop_walk g (suc n) met e)
    inner r = record {
      under = course (stop_hops (stop_walk g n) zero (hops g e.role) (e.role ∷ met));
      goes = r.goes;
      edges = refl;
      met_is = refl;
      stop_is = refl;
      wider = λ w h. r.wider w (within-grow met met e.role (within-self met) w h);
    }

-- the course from the top role
pub from_root : (g : Graph) → Below g [] g.root (stop_walk g (length g.rows) [] g.root)
from_root g = goes_down g (length g.rows) [] [] g.root (deep g (length g.rows) [] (all_unmet g.rows)) (within-self []) refl
