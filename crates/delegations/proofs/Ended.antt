-- How a search ended: the visits that it passed by, and what ended it. And the chains by which it visited.
use Rattle.std.proofs.Common.{◌≡◌, ℕ, zero, suc, ◌+◌, ◌<◌, cond, List, [], ◌∷◌, ◌++◌, map, length, take, Option, Some, None, Ok, Err, refl, sym, ap, ◌∙◌, subst, inl, inr, arith, nat_lt}
use Rattle.std.specs.List.{AllByRecursion}
use Rattle.document_parts.specs.Documents.{Targets, Listing}
use Rattle.metadata.specs.File.{Bytes, File}
use Rattle.denials.specs.Numbers as no
use Rattle.denials.specs.Orders.{Judged, Stop, Denied, Plain, pass, decide, given, stopped, denied}
use Rattle.delegations.specs.Delegation.{Edge, Graph, chain_end}
use Rattle.delegations.specs.Search.{Shelf, Found, Good, visit, find_in, found_or, listing_of, search, visited, most_visits}
use Rattle.delegations.specs.Verdicts.{PassesBy}
use Rattle.delegations.specs.steps.Course.{here}
use Rattle.delegations.proofs.Complete.{In}
use Rattle.delegations.proofs.Firsts.{LeadTo}
use Rattle.delegations.proofs.GoodVisits.{visits_good}
use Rattle.delegations.proofs.Rooted.{Rooted, taken_ways, all_rooted}
use Rattle.delegations.proofs.SearchByWalk.{edges_are, all_lead_to}
use Rattle.delegations.proofs.Walk.{Way}

module _ (V : Shelf) (path : Bytes) (now n : ℕ) where
  -- what ends a search that has these visits left, and room for so many
  pub data Ends : ℕ → List Edge → Judged Found → Type 0 where
    no_visit : {room : ℕ} → Ends room [] (Err (Denied (Plain n)))
    no_room : {e : Edge} {es : List Edge} → Ends zero (e ∷ es) (Err (Denied (Plain n)))
    denies : {room : ℕ} {e : Edge} {es : List Edge} {s : Stop} → visit V e now (Err s) → Ends (suc room) (e ∷ es) (Err s)
    finds : {room : ℕ} {e : Edge} {es : List Edge} (file : File Targets) (l : Listing) → visit V e now (Ok file) → listing_of file.body path ≡ Some l
        → Ends (suc room) (e ∷ es) (Ok (record { role = e.role; listing = l }))

  pub record Ended (room : ℕ) (es : List Edge) (j : Judged Found) : Type 0 where
    pub taken : List Edge
    pub rest : List Edge
    pub left : ℕ
    pub split : es ≡ taken ++ rest
    pub on : AllByRecursion (PassesBy V path now) taken
    pub used : left + length taken ≡ room
    pub ends : Ends left rest j

  one_more : (room : ℕ) (e : Edge) (es : List Edge) (j : Judged Found) → PassesBy V path now e → Ended room es j → Ended (suc room) (e ∷ es) j
  one_more room e es j p r = record { taken = e ∷ r.taken; rest = r.rest; left = r.left; split = ap (λ xs. e ∷ xs) r.split; on = (p, r.on); used = omega (arith, r.used); ends = r.ends }

  at_end : (room : ℕ) (es : List Edge) (j : Judged Found) → Ends room es j → Ended room es j
  at_end room es j h = record { taken = []; rest = es; left = room; split = refl; on = tt; used = omega arith; ends = h }

  by_listing : (room : ℕ) (e : Edge) (es : List Edge) (file : File Targets) (j : Judged Found) → visit V e now (Ok file)
      → (find_in V (take room es) path now (denied n) j → Ended room es j)
      → (o : Option Listing) → listing_of file.body path ≡ o → found_or V e.role o (find_in V (take room es) path now (denied n)) j → Ended (suc room) (e ∷ es) j
  by_listing room e es file j seen on None none go = one_more room e es j (record { file = file; visits = seen; lists_not = none }) (on go)
  by_listing room e es file _ seen on (Some l) is given = at_end (suc room) (e ∷ es) (Ok (record { role = e.role; listing = l })) (finds file l seen is)

  pub ended : (room : ℕ) (es : List Edge) (j : Judged Found) → find_in V (take room es) path now (denied n) j → Ended room es j
  ended zero [] _ stopped = at_end zero [] (Err (Denied (Plain n))) no_visit
  ended (suc room) [] _ stopped = at_end (suc room) [] (Err (Denied (Plain n))) no_visit
  ended zero (e ∷ es) _ stopped = at_end zero (e ∷ es) (Err (Denied (Plain n))) no_room
  ended (suc room) (e ∷ es) _ (decide {why = s} h) = at_end (suc room) (e ∷ es) (Err s) (denies h)
  ended (suc room) (e ∷ es) j (pass {a = file} seen more) = by_listing room e es file j seen (λ go. ended room es j go) (listing_of file.body path) refl more

-- the number of the denial where no visit decides
abbrev pub last_number : Shelf → Bytes → ℕ
last_number V path = cond (nat_lt most_visits (length (visited V path))) no.too_many_roles no.not_found

pub search_ended : (V : Shelf) (path : Bytes) (now : ℕ) (j : Judged Found) → search V path now j → Ended V path now (last_number V path) most_visits (visited V path) j
search_ended V path now j h = ended V path now (last_number V path) most_visits (visited V path) j h

-- ---- the chain of a visit

module _ (V : Shelf) (g : Graph) (now : ℕ) where
  -- a chain to the edge, each of whose roles before the last is good by its edge
  pub record Led (e : Edge) : Type 0 where
    pub chain : List ℕ
    pub leads : chain_end g chain ≡ Some e
    pub good : (k : ℕ) (x : Edge) → k < length chain → chain_end g (take k chain) ≡ Some x → Good V x now

  one_edge : (x y : Edge) → Some x ≡ Some y → x ≡ y
  one_edge x y h = cc

  pub led : (ws : List Way) (done : List (List ℕ)) (taken rest : List Edge) (e : Edge) → map (λ w. w.1) ws ≡ taken ++ e ∷ rest → Rooted done ws → LeadTo (chain_end g) ws
      → ((c : List ℕ) → In c done → (x : Edge) → chain_end g c ≡ Some x → Good V x now) → AllByRecursion (λ x. Good V x now) taken → Led e
  led [] done [] rest e at roots leads all good = cc
  led [] done (x ∷ taken) rest e at roots leads all good = cc
  led (w ∷ ws) done [] rest e at roots leads all good =
      let same : w.1 ≡ e = cc in
      record { chain = w.0; leads = leads.0 ∙ ap Some same; good = λ k x less is. all (take k w.0) (roots.0 k less) x is }
  led (w ∷ ws) done (x ∷ taken) rest e at roots leads all good =
      let same : w.1 ≡ x = cc in
      let later : map (λ v. v.1) ws ≡ taken ++ e ∷ rest = cc in
      led ws (w.0 ∷ done) taken rest e later roots.1 leads.1 (wider same) good.1
    where
      wider : w.1 ≡ x → (c : List ℕ) → In c (w.0 ∷ done) → (y : Edge) → chain_end g c ≡ Some y → Good V y now
      wider same c (inl is) y ends =
          let there : chain_end g w.0 ≡ Some y = ap (λ d. chain_end g d) is ∙ ends in
          subst (λ z. Good V z now) (sym same ∙ one_edge w.1 y (sym leads.0 ∙ there)) good.0
      wider same c (inr is) y ends = all c is y ends

all_good : (V : Shelf) (path : Bytes) (now : ℕ) (es : List Edge) → AllByRecursion (PassesBy V path now) es → AllByRecursion (λ x. Good V x now) es
all_good V path now [] h = tt
all_good V path now (e ∷ es) h = (((visits_good V e now h.0.file).0 h.0.visits).0, all_good V path now es h.1)

-- the edge at which a search stands after visits that pass
pub led_here : (V : Shelf) (path : Bytes) (now : ℕ) (taken rest : List Edge) (e : Edge) → visited V path ≡ taken ++ e ∷ rest → AllByRecursion (PassesBy V path now) taken → Led V (here V path) now e
led_here V path now taken rest e split on =
    let g = here V path in
    led V g now (taken_ways g) [] taken rest e (sym (edges_are g) ∙ split) (all_rooted g) (all_lead_to g) (λ c there. absurd there) (all_good V path now taken on)
