-- Who vouches for a new document: chains of good documents as a relation, and what a search for them keeps.
use Rattle.std.proofs.Common.{◌≡◌, ℕ, zero, suc, ◌+◌, ◌≤◌, ◌<◌, Bool, true, false, cond, ◌||◌, List, [], ◌∷◌, ◌++◌, length, map, take, Option, Some, None, refl, ap, sym, ◌∙◌, subst, arith, true≢false, bytes_eq, ◌⊎◌, inl, inr, ⊎_elim, slice_get, length-append, nat_lt, append_assoc, append-nil, Bor, IsTrue, ◌↔◌}
use Rattle.std.specs.Prelude.{option_and_then, option_map, unwrap_or}
use Rattle.std.specs.List.{AllByRecursion, list_any}
use Rattle.std.specs.Option.{option_flatten}
use Rattle.std.proofs.lemmas.Bool.{or_cases, or_left, or_right, ltb-true, ltb-false}
use Rattle.std.proofs.lemmas.List.{take-append-le, take_all}
use Rattle.std.proofs.lemmas.Slice.Eq.{bytes_eq-Decides}
use Rattle.keys_roles.specs.Plain.{look_up}
use Rattle.document_parts.specs.Documents.{Targets, MetaFile}
use Rattle.metadata.specs.File.{Name, Names, File, has_name}
use Rattle.delegations.specs.Delegation.{Edge, Hops, hops, hop_at, unmet, leads, chain_end}
use Rattle.delegations.specs.Search.{Shelf, Good, MeetsEdge, Vouched, whole}
use Rattle.delegations.specs.steps.Reaching.{IsAmong, Within, unmet_rows, Reaches, begins, goes_on, Arrives, Handles, IsDone, IsOpen, IsLooking, Follows}
use Rattle.delegations.proofs.Complete.{HasHop, has_hop}
use Rattle.delegations.proofs.Walk.{by_test}

-- ---- names

same_name : (a b : Name) → bytes_eq a b ≡ true → a ≡ b
same_name a b h = (bytes_eq-Decides a b).0 h

self_name : (a : Name) → bytes_eq a a ≡ true
self_name a = (bytes_eq-Decides a a).1 refl

pub has_left : (xs : Names) (u w : Name) → has_name xs w ≡ true → has_name (xs ++ u ∷ []) w ≡ true
has_left [] u w h = absurd (true≢false (sym h))
has_left (x ∷ xs) u w h = ⊎_elim
    (λ l. or_left (bytes_eq x w) (has_name (xs ++ u ∷ []) w) l)
    (λ r. or_right (bytes_eq x w) (has_name (xs ++ u ∷ []) w) (has_left xs u w r))
    (or_cases (bytes_eq x w) (has_name xs w) h)

pub has_last : (xs : Names) (u : Name) → has_name (xs ++ u ∷ []) u ≡ true
has_last [] u = or_left (bytes_eq u u) false (self_name u)
has_last (x ∷ xs) u = or_right (bytes_eq x u) (has_name (xs ++ u ∷ []) u) (has_last xs u)

pub has_either : (xs : Names) (u w : Name) → has_name (xs ++ u ∷ []) w ≡ true → (has_name xs w ≡ true) ⊎ (u ≡ w)
has_either [] u w h = ⊎_elim (λ l. inr (same_name u w l)) (λ r. absurd (true≢false (sym r))) (or_cases (bytes_eq u w) false h)
has_either (x ∷ xs) u w h = ⊎_elim
    (λ l. inl (or_left (bytes_eq x w) (has_name xs w) l))
    (λ r. ⊎_elim (λ t. inl (or_right (bytes_eq x w) (has_name xs w) t)) (λ t. inr t) (has_either xs u w r))
    (or_cases (bytes_eq x w) (has_name (xs ++ u ∷ []) w) h)

off : (xs : Names) (a b : Name) → a ≡ b → has_name xs a ≡ true → has_name xs b ≡ false → ⊥
off xs a b same h n = true≢false (sym (subst (λ c. has_name xs c ≡ true) same h) ∙ n)

none_has : (xs : Names) (u w : Name) → has_name xs w ≡ false → (u ≡ w → ⊥) → has_name (xs ++ u ∷ []) w ≡ false
none_has xs u w n other = by_test (has_name (xs ++ u ∷ []) w)
    (λ t. ⊎_elim (λ l. absurd (true≢false (sym l ∙ n))) (λ r. absurd (other r)) (has_either xs u w t))
    (λ f. f)

pub among : (xs : List (Bor (List ℕ))) (name : Name) → list_any (λ n. bytes_eq n.now name) xs ≡ has_name (map (λ n. n.now) xs) name
among [] name = refl
among (x ∷ xs) name = ap (λ b. bytes_eq x.now name || b) (among xs name)

-- ---- lists of delegations that wait

pub among_left : (hs : Hops) (xs : List Hops) (y : Hops) → IsAmong hs xs → IsAmong hs (xs ++ y ∷ [])
among_left hs [] y h = absurd h
among_left hs (x ∷ xs) y (inl e) = inl e
among_left hs (x ∷ xs) y (inr h) = inr (among_left hs xs y h)

pub among_last : (xs : List Hops) (y : Hops) → IsAmong y (xs ++ y ∷ [])
among_last [] y = inl refl
among_last (x ∷ xs) y = inr (among_last xs y)

pub among_either : (hs : Hops) (xs : List Hops) (y : Hops) → IsAmong hs (xs ++ y ∷ []) → IsAmong hs xs ⊎ (y ≡ hs)
among_either hs [] y (inl e) = inr e
among_either hs [] y (inr h) = absurd h
among_either hs (x ∷ xs) y (inl e) = inl (inl e)
among_either hs (x ∷ xs) y (inr h) = ⊎_elim (λ l. inl (inr l)) (λ r. inr r) (among_either hs xs y h)

-- ---- the listed roles that were not met

abbrev weight : Bool → ℕ
weight b = cond b 0 1

fewer : (met : Names) (u w : Name) → cond (has_name (met ++ u ∷ []) w) 0 1 ≤ cond (has_name met w) 0 1
fewer met u w = by_test (has_name met w)
    (λ t. rw (t, has_left met u w t) (omega arith))
    (λ f. rw f (by_test (has_name (met ++ u ∷ []) w) (λ t. rw t (omega arith)) (λ t. rw t (omega arith))))

rows_fewer : (rows : List (Name × MetaFile)) (met : Names) (u : Name) → unmet_rows rows (met ++ u ∷ []) ≤ unmet_rows rows met
rows_fewer [] met u = omega arith
rows_fewer (row ∷ rows) met u = omega (arith, fewer met u row.0, rows_fewer rows met u)

pub one_fewer : (rows : List (Name × MetaFile)) (met : Names) (u : Name) (m : MetaFile) → look_up rows u ≡ Some m → has_name met u ≡ false → suc (unmet_rows rows (met ++ u ∷ [])) ≤ unmet_rows rows met
one_fewer [] met u m h n = cc
one_fewer (row ∷ rows) met u m h n = by_test (bytes_eq row.0 u)
    (λ t. let same : u ≡ row.0 = sym (same_name row.0 u t) in
    let before : weight (has_name met row.0) ≡ 1 = ap (λ (w : Name). weight (has_name met w)) (sym same) ∙ ap weight n in
    let after : weight (has_name (met ++ u ∷ []) row.0) ≡ 0 = ap (λ (w : Name). weight (has_name (met ++ u ∷ []) w)) (sym same) ∙ ap weight (has_last met u) in
    omega (arith, before, after, rows_fewer rows met u))
    (λ f. omega (arith, fewer met u row.0, one_fewer rows met u m (rw f at h) n))

module _ (V : Shelf) (now : ℕ) where
  -- ---- chains, and what they reach

  -- the top role is on every way
  top_seen : (seen : Names) (e : Edge) → Reaches V now seen e → has_name seen V.top.role ≡ true
  top_seen seen e begins = or_left (bytes_eq V.top.role V.top.role) false (self_name V.top.role)
  top_seen seen e (goes_on {seen = before} {next = next} middle i h good at new) = or_right (bytes_eq next.role V.top.role) (has_name before V.top.role) (top_seen before middle h)

  -- a chain whose edges are good, from an edge that is reached
  reaches_on : (seen : Names) (e : Edge) (is : List ℕ) (last : Edge) → Reaches V now (e.role ∷ seen) e → leads (whole V) seen e is ≡ Some last
      → ((k : ℕ) (x : Edge) → k < length is → leads (whole V) seen e (take k is) ≡ Some x → Good V x now) → (later : Names) × Reaches V now later last
  reaches_on seen e [] last r h goods = let same : e ≡ last = cc in (e.role ∷ seen, subst (λ x. Reaches V now (e.role ∷ seen) x) same r)
  reaches_on seen e (i ∷ is) last r h goods =
      let hop = has_hop (whole V) seen e i is last h in
      let to : hop_at (whole V) e.role i ≡ Some hop.next = ap option_flatten hop.at in
      reaches_on (e.role ∷ seen) hop.next is last (goes_on e i r (goods 0 e (omega arith) refl) to hop.fresh) hop.rest
      (λ k x less is_x. goods (suc k) x (omega (arith, less)) (step hop k ∙ is_x))
    where
      step : (hop : HasHop (whole V) seen e i is last) (k : ℕ) → leads (whole V) seen e (i ∷ take k is) ≡ leads (whole V) (e.role ∷ seen) hop.next (take k is)
      step hop k = ap (λ o. option_and_then (λ n. leads (whole V) (e.role ∷ seen) n (take k is)) (option_and_then (unmet (e.role ∷ seen)) (option_flatten o))) hop.at
          ∙ ap (λ b. option_and_then (λ n. leads (whole V) (e.role ∷ seen) n (take k is)) (cond b None (Some hop.next))) hop.fresh

  module _ (role : Name) (new : File Targets) where
    -- an edge into the role that is reached, by whose rule the new document is signed
    pub record Shows : Type 0 where
      pub seen : Names
      pub last : Edge
      pub reaches : Reaches V now seen last
      pub ends : last.role ≡ role
      pub meets : MeetsEdge V last new

    pub shown : Vouched V role new now → Shows
    shown v =
        let r = reaches_on [] V.top v.0 v.1.last begins v.1.leads v.1.earlier in
        record { seen = r.0; last = v.1.last; reaches = r.1; ends = v.1.ends; meets = v.1.meets }

    -- ---- where no delegations wait, no edge vouches for the document

    handled_in : (met : Names) (hs : Hops) (i : ℕ) (next : Edge) → AllByRecursion (Handles V now role new met) hs → option_flatten (slice_get hs i) ≡ Some next → Handles V now role new met (Some next)
    handled_in met [] i next all at = absurd (none_some at)
      where
        none_some : None ≡ Some next → ⊥
        none_some h = cc
    handled_in met (h ∷ hs) zero next all at = subst (λ o. Handles V now role new met o) at all.0
    handled_in met (h ∷ hs) (suc i) next all at = handled_in met hs i next all.1 at

    module _ (met : Names) (state : IsOpen V now role new met []) (other : V.top.role ≡ role → ⊥) where
      handled_at : (u : Name) → has_name met u ≡ true → (i : ℕ) (next : Edge) → hop_at (whole V) u i ≡ Some next → Handles V now role new met (Some next)
      handled_at u there i next at = ⊎_elim (λ all. handled_in met (hops (whole V) u) i next all at) (λ none. absurd none) (state.looked u there)

      -- a delegation of a role that is done: one that delegates nothing has none
      handled_after : (u : Name) → IsDone V now met u → (i : ℕ) (next : Edge) → hop_at (whole V) u i ≡ Some next → Handles V now role new met (Some next)
      handled_after u done i next at = ⊎_elim
          (λ there. handled_at u there i next at)
          (λ none. absurd (none_some (sym (ap (λ (hs : Hops). option_flatten (slice_get hs i)) none) ∙ at)))
          done
        where
          none_some : None ≡ Some next → ⊥
          none_some h = cc

      met_or_role : (seen : Names) (e : Edge) → Reaches V now seen e → (has_name seen role ≡ true) ⊎ (Good V e now → IsDone V now met e.role)
      met_or_role seen e begins = inr state.top
      met_or_role seen e (goes_on {seen = before} {next = next} middle i h good at fresh) = ⊎_elim
          (λ l. inl (or_right (bytes_eq next.role role) (has_name before role) l))
          (λ r. of_next (handled_after middle.role (r good) i next at))
          (met_or_role before middle h)
        where
          of_next : Handles V now role new met (Some next) → (has_name (next.role ∷ before) role ≡ true) ⊎ (Good V next now → IsDone V now met next.role)
          of_next h = by_test (bytes_eq next.role role)
              (λ t. inl (or_left (bytes_eq next.role role) (has_name before role) t))
              (λ f. inr (λ g. ⊎_elim (λ m. m) (λ same. absurd (true≢false (sym ((bytes_eq-Decides next.role role).1 same) ∙ f))) (h.1 g)))

      never : (seen : Names) (e : Edge) → Reaches V now seen e → e.role ≡ role → MeetsEdge V e new → ⊥
      never seen e begins same meets = other same
      never seen e (goes_on {seen = before} {next = next} middle i h good at fresh) same meets = ⊎_elim
          (λ l. off before role next.role (sym same) l fresh)
          (λ r. (handled_after middle.role (r good) i next at).0 same meets)
          (met_or_role before middle h)

      pub none_vouches : Vouched V role new now → ⊥
      none_vouches v = let s = shown v in never s.seen s.last s.reaches s.ends s.meets

  -- ---- a chain from what is reached

  abbrev seen_at : Names → Edge → List ℕ → Names
  seen_at seen e [] = e.role ∷ seen
  seen_at seen e (i ∷ is) = unwrap_or (option_map (λ n. seen_at (e.role ∷ seen) n is) (option_and_then (unmet (e.role ∷ seen)) (hop_at (whole V) e.role i))) []

  taken_hop : (seen : Names) (e : Edge) (i : ℕ) (next : Edge) → hop_at (whole V) e.role i ≡ Some next → has_name (e.role ∷ seen) next.role ≡ false
      → option_and_then (unmet (e.role ∷ seen)) (hop_at (whole V) e.role i) ≡ Some next
  taken_hop seen e i next at new = ap (λ o. option_and_then (unmet (e.role ∷ seen)) o) at ∙ ap (λ b. cond b None (Some next)) new

  -- one more edge at the end of a chain
  extend : (seen : Names) (e : Edge) (is : List ℕ) (last : Edge) (i : ℕ) (next : Edge) → leads (whole V) seen e is ≡ Some last → hop_at (whole V) last.role i ≡ Some next
      → has_name (seen_at seen e is) next.role ≡ false
      → (leads (whole V) seen e (is ++ i ∷ []) ≡ Some next) × (seen_at seen e (is ++ i ∷ []) ≡ next.role ∷ seen_at seen e is)
  extend seen e [] last i next h at new =
      let same : e ≡ last = cc in
      let there : hop_at (whole V) e.role i ≡ Some next = ap (λ (x : Edge). hop_at (whole V) x.role i) same ∙ at in
      let one = taken_hop seen e i next there new in
      (ap (λ o. option_and_then (λ n. Some n) o) one, ap (λ o. unwrap_or (option_map (λ n. n.role ∷ (e.role ∷ seen)) o) []) one)
  extend seen e (j ∷ is) last i next h at new =
      let hop = has_hop (whole V) seen e j is last h in
      let to : hop_at (whole V) e.role j ≡ Some hop.next = ap option_flatten hop.at in
      let one = taken_hop seen e j hop.next to hop.fresh in
      let here : seen_at seen e (j ∷ is) ≡ seen_at (e.role ∷ seen) hop.next is = ap (λ o. unwrap_or (option_map (λ n. seen_at (e.role ∷ seen) n is) o) []) one in
      let more = extend (e.role ∷ seen) hop.next is last i next hop.rest at (ap (λ ns. has_name ns next.role) (sym here) ∙ new) in (
        ap (λ o. option_and_then (λ n. leads (whole V) (e.role ∷ seen) n (is ++ i ∷ [])) o) one ∙ more.0,
        ap (λ o. unwrap_or (option_map (λ n. seen_at (e.role ∷ seen) n (is ++ i ∷ [])) o) []) one ∙ more.1 ∙ ap (λ ns. next.role ∷ ns) (sym here),
      )

  record Chained (seen : Names) (e : Edge) : Type 0 where
    pub chain : List ℕ
    pub leads_to : chain_end (whole V) chain ≡ Some e
    pub at : seen_at [] V.top chain ≡ seen
    pub goods : (k : ℕ) (x : Edge) → k < length chain → chain_end (whole V) (take k chain) ≡ Some x → Good V x now

  chained : (seen : Names) (e : Edge) → Reaches V now seen e → Chained seen e
  chained seen e begins = record { chain = []; leads_to = refl; at = refl; goods = λ k x less is. absurd (omega (arith, less)) }
  chained seen e (goes_on {seen = before} {next = next} middle i h good at new) =
      let c = chained before middle h in
      let more = extend [] V.top c.chain middle i next c.leads_to at (ap (λ ns. has_name ns next.role) c.at ∙ new) in
      record {
        chain = c.chain ++ i ∷ [];
        leads_to = more.0;
        at = more.1 ∙ ap (λ ns. next.role ∷ ns) c.at;
        goods = λ k x less is. earlier c k x (rw (length-append c.chain (i ∷ [])) at less) is;
      }
    where
      one_edge : (a b : Edge) → Some a ≡ Some b → a ≡ b
      one_edge a b h = cc

      le_or_lt : (k n : ℕ) → (k < n) ⊎ (n ≤ k)
      le_or_lt k n = by_test (nat_lt k n) (λ t. inl (ltb-true k n t)) (λ f. inr (ltb-false k n f))

      earlier : (c : Chained before middle) (k : ℕ) (x : Edge) → k < length c.chain + 1 → chain_end (whole V) (take k (c.chain ++ i ∷ [])) ≡ Some x → Good V x now
      earlier c k x less is =
          let short : chain_end (whole V) (take k c.chain) ≡ Some x = sym (ap (λ t. chain_end (whole V) t) (take-append-le k c.chain (i ∷ []) (omega (arith, less)))) ∙ is in
          ⊎_elim
          (λ before_it. c.goods k x before_it short)
          (λ whole_it. let same : middle ≡ x = one_edge middle x (sym c.leads_to ∙ sym (ap (λ t. chain_end (whole V) t) (take_all k c.chain whole_it)) ∙ short) in
          subst (λ y. Good V y now) same good)
          (le_or_lt k (length c.chain))

  pub vouched_by : (role : Name) (new : File Targets) (seen : Names) (e : Edge) → Reaches V now seen e → e.role ≡ role → MeetsEdge V e new → Vouched V role new now
  vouched_by role new seen e h ends meets =
      let c = chained seen e h in
      (c.chain, record { last = e; leads = c.leads_to; ends = ends; earlier = c.goods; meets = meets })

  -- ---- the steps of the search

  module _ (role : Name) (new : File Targets) where
    done_within : (met later : Names) → Within met later → (w : Name) → IsDone V now met w → IsDone V now later w
    done_within met later within w done = ⊎_elim (λ l. inl (within w l)) (λ r. inr r) done

    done_later : (met : Names) (u w : Name) → IsDone V now met w → IsDone V now (met ++ u ∷ []) w
    done_later met u w done = done_within met (met ++ u ∷ []) (λ x k. has_left met u x k) w done

    widened : (met : Names) (u : Name) (o : Option Edge) → Handles V now role new met o → Handles V now role new (met ++ u ∷ []) o
    widened met u None h = tt
    widened met u (Some e) h = (h.0, λ g. ⊎_elim (λ l. inl (done_later met u e.role l)) (λ r. inr r) (h.1 g))

    all_wider : (met later : Names) (hs : Hops) → ((o : Option Edge) → Handles V now role new met o → Handles V now role new later o) → AllByRecursion (Handles V now role new met) hs → AllByRecursion (Handles V now role new later) hs
    all_wider met later [] wider h = tt
    all_wider met later (o ∷ hs) wider h = (wider o h.0, all_wider met later hs wider h.1)

    pub wider_by : (met later : Names) → Within met later → (hs : Hops) → AllByRecursion (Handles V now role new met) hs → AllByRecursion (Handles V now role new later) hs
    wider_by met later within hs h = all_wider met later hs each h
      where
        each : (o : Option Edge) → Handles V now role new met o → Handles V now role new later o
        each None k = tt
        each (Some e) k = (k.0, λ g. ⊎_elim (λ l. inl (done_within met later within e.role l)) (λ r. inr r) (k.1 g))

    reordered : (met : Names) (xs ys : List Hops) → ((hs : Hops) → IsAmong hs xs → IsAmong hs ys) → ((hs : Hops) → IsAmong hs ys → IsAmong hs xs) → IsOpen V now role new met xs → IsOpen V now role new met ys
    reordered met xs ys there back state = record {
      apart = state.apart;
      reached = state.reached;
      looked = λ u h. ⊎_elim (λ l. inl l) (λ r. inr (there (hops (whole V) u) r)) (state.looked u h);
      from = λ hs h. state.from hs (back hs h);
      top = state.top;
    }

    -- the last frame taken off
    pub popped : (met : Names) (xs : List Hops) (y : Hops) → IsOpen V now role new met (xs ++ y ∷ []) → IsOpen V now role new met (y ∷ xs)
    popped met xs y state = reordered met (xs ++ y ∷ []) (y ∷ xs)
        (λ hs h. ⊎_elim (λ l. inr l) (λ r. inl r) (among_either hs xs y h))
        (λ hs h. ⊎_elim (λ l. subst (λ t. IsAmong t (xs ++ y ∷ [])) l (among_last xs y)) (λ r. among_left hs xs y r) h) state

    -- all delegations of a role looked at
    pub closed : (met : Names) (hs : Hops) (hss : List Hops) → IsOpen V now role new met (hs ∷ hss) → AllByRecursion (Handles V now role new met) hs → IsOpen V now role new met hss
    closed met hs hss state all = record {
      apart = state.apart;
      reached = state.reached;
      looked = λ u h. ⊎_elim (λ l. inl l) (λ r. ⊎_elim (λ same. inl (subst (λ t. AllByRecursion (Handles V now role new met) t) same all)) (λ more. inr more) r) (state.looked u h);
      from = λ xs h. state.from xs (inr h);
      top = state.top;
    }

    -- the start: the top role, if its document is good and delegates something
    pub none_open : (Good V V.top now → hops (whole V) V.top.role ≡ []) → IsOpen V now role new [] []
    none_open none = record {
      apart = refl;
      reached = λ u h. absurd (true≢false (sym h));
      looked = λ u h. absurd (true≢false (sym h));
      from = λ hs h. absurd h;
      top = λ g. inr (none g);
    }

    top_only : (u : Name) → has_name (V.top.role ∷ []) u ≡ true → V.top.role ≡ u
    top_only u h = ⊎_elim (λ l. same_name V.top.role u l) (λ r. absurd (true≢false (sym r))) (or_cases (bytes_eq V.top.role u) false h)

    top_there : has_name (V.top.role ∷ []) V.top.role ≡ true
    top_there = or_left (bytes_eq V.top.role V.top.role) false (self_name V.top.role)

    pub top_open : Good V V.top now → (V.top.role ≡ role → ⊥) → (hss : List Hops) → (hops (whole V) V.top.role ≡ []) ⊎ IsAmong (hops (whole V) V.top.role) hss → ((hs : Hops) → IsAmong hs hss → hops (whole V) V.top.role ≡ hs)
        → IsOpen V now role new (V.top.role ∷ []) hss
    top_open good other hss waits only = record {
      apart = by_test (has_name (V.top.role ∷ []) role) (λ t. absurd (other (top_only role t))) (λ f. f);
      reached = λ u h. record { seen = V.top.role ∷ []; last = V.top; reaches = begins; good = good; ends = top_only u h; inside = λ w k. k };
      looked = λ u h. ⊎_elim
          (λ none. inl (subst (λ t. AllByRecursion (Handles V now role new (V.top.role ∷ [])) t) (sym none ∙ ap (λ w. hops (whole V) w) (top_only u h)) tt))
          (λ there. inr (subst (λ w. IsAmong (hops (whole V) w) hss) (top_only u h) there)) waits;
      from = λ hs h. (V.top.role, top_there, only hs h);
      top = λ g. inl top_there;
    }

    -- one delegation of a role that was met
    module _ (met : Names) (hs : Hops) (hss : List Hops) (state : IsOpen V now role new met (hs ∷ hss)) (i : ℕ) (e : Edge) (at : slice_get hs i ≡ Some (Some e)) where
      origin : ((seen : Names) × Reaches V now (e.role ∷ seen) e × Within seen met) ⊎ (has_name met e.role ≡ true)
      origin =
          let f = state.from hs (inl refl) in
          let a = state.reached f.0 f.1 in
          let to : hop_at (whole V) a.last.role i ≡ Some e = ap (λ w. hop_at (whole V) w i) a.ends ∙ ap (λ t. option_flatten (slice_get t i)) f.2 ∙ ap option_flatten at in
          by_test (has_name a.seen e.role)
          (λ t. inr (a.inside e.role t))
          (λ fresh. inl (a.seen, goes_on a.last i a.reaches a.good to fresh, a.inside))

      pub succeeds : e.role ≡ role → MeetsEdge V e new → Vouched V role new now
      succeeds same meets = ⊎_elim
          (λ l. vouched_by role new (e.role ∷ l.0) e l.1 same meets)
          (λ r. absurd (off met e.role role same r state.apart)) origin

      pub not_by_it : e.role ≡ role → (MeetsEdge V e new → ⊥) → Follows V now role new e hs met hss met hss false
      not_by_it same bad = (state, (λ _ m. bad m, λ g. inr same), λ w h. h)

      pub by_meeting : (b : Bool) → (IsTrue b ↔ MeetsEdge V e new) → e.role ≡ role → Follows V now role new e hs met hss met hss b
      by_meeting true tells same = succeeds same (tells.0 refl)
      by_meeting false tells same = not_by_it same (λ m. true≢false (sym (tells.1 m)))

      pub met_before : (e.role ≡ role → ⊥) → has_name met e.role ≡ true → Follows V now role new e hs met hss met hss false
      met_before other there = (state, (λ same m. other same, λ g. inl (inl there)), λ w h. h)

      pub leads_nowhere : (e.role ≡ role → ⊥) → (Good V e now → hops (whole V) e.role ≡ []) → Follows V now role new e hs met hss met hss false
      leads_nowhere other none = (state, (λ same m. other same, λ g. inl (inr (none g))), λ w h. h)

      pub opens : (e.role ≡ role → ⊥) → has_name met e.role ≡ false → Good V e now → (later : List Hops)
          → ((xs : Hops) → IsAmong xs hss → IsAmong xs later) → ((xs : Hops) → IsAmong xs later → IsAmong xs hss ⊎ (hops (whole V) e.role ≡ xs))
          → (hops (whole V) e.role ≡ []) ⊎ IsAmong (hops (whole V) e.role) later
          → Follows V now role new e hs met hss (met ++ e.role ∷ []) later false
      opens other new_role good later more only waits = (
        record {
          apart = none_has met e.role role state.apart other;
          reached = λ u h. ⊎_elim (λ l. let a = state.reached u l in record { seen = a.seen; last = a.last; reaches = a.reaches; good = a.good; ends = a.ends; inside = λ w k. has_left met e.role w (a.inside w k) }) (λ same. arrives u same) (has_either met e.role u h);
          looked = λ u h. ⊎_elim
              (λ l. ⊎_elim
              (λ all. inl (wider_by met (met ++ e.role ∷ []) (λ w k. has_left met e.role w k) (hops (whole V) u) all))
              (λ waiting. inr (⊎_elim (λ same. inl same) (λ rest. inr (more (hops (whole V) u) rest)) waiting))
              (state.looked u l))
              (λ same. ⊎_elim
              (λ none. inl (subst (λ t. AllByRecursion (Handles V now role new (met ++ e.role ∷ [])) t) (sym none ∙ ap (λ w. hops (whole V) w) same) tt))
              (λ there. inr (inr (subst (λ w. IsAmong (hops (whole V) w) later) same there))) waits)
              (has_either met e.role u h);
          from = λ xs h. ⊎_elim
              (λ same. let f = state.from xs (inl same) in (f.0, has_left met e.role f.0 f.1, f.2))
              (λ rest. ⊎_elim (λ l. let f = state.from xs (inr l) in (f.0, has_left met e.role f.0 f.1, f.2)) (λ r. (e.role, has_last met e.role, r)) (only xs rest)) h;
          top = λ g. done_later met e.role V.top.role (state.top g);
        },
        (λ same m. other same, λ g. inl (inl (has_last met e.role))),
        λ w h. has_left met e.role w h,
      )
        where
          arrives : (u : Name) → e.role ≡ u → Arrives V now (met ++ e.role ∷ []) u
          arrives u same = ⊎_elim
              (λ l. record { seen = e.role ∷ l.0; last = e; reaches = l.1; good = good; ends = same; inside = λ w k. ⊎_elim (λ t. subst (λ v. has_name (met ++ e.role ∷ []) v ≡ true) (same_name e.role w t) (has_last met e.role)) (λ t. has_left met e.role w (l.2 w t)) (or_cases (bytes_eq e.role w) (has_name l.0 w) k) })
              (λ r. absurd (true≢false (sym r ∙ new_role))) origin

    -- ---- all delegations of a role

    at_rest : (xs : Hops) (x : Option Edge) (ys : Hops) → slice_get (xs ++ x ∷ ys) (length xs) ≡ Some x
    at_rest [] x ys = refl
    at_rest (z ∷ xs) x ys = at_rest xs x ys

    all_and : (met : Names) (xs : Hops) (x : Option Edge) → AllByRecursion (Handles V now role new met) xs → Handles V now role new met x → AllByRecursion (Handles V now role new met) (xs ++ x ∷ [])
    all_and met [] x h is = (is, tt)
    all_and met (y ∷ xs) x h is = (h.0, all_and met xs x h.1 is)

    pub looks : (met : Names) (hss : List Hops) (all : Hops) → IsOpen V now role new met (all ∷ hss) → IsLooking V now role new met hss all all
    looks met hss all state = record { state = state; done = []; split = refl; handled = tt }

    pub follows_next : (met : Names) (hss : List Hops) (all : Hops) (e : Edge) (rest : Hops) (later_met : Names) (later : List Hops) (b : Bool) → IsLooking V now role new met hss all (Some e ∷ rest)
        → ((hs : Hops) (i : ℕ) → IsOpen V now role new met (hs ∷ hss) → slice_get hs i ≡ Some (Some e) → Follows V now role new e hs met hss later_met later b)
        → Follows V now role new e all met hss later_met later b
    follows_next met hss all e rest later_met later b l each = each all (length l.done) l.state (ap (λ t. slice_get t (length l.done)) l.split ∙ at_rest l.done (Some e) rest)

    pub looks_on : (met : Names) (hss : List Hops) (all : Hops) (e : Edge) (rest : Hops) (later_met : Names) (later : List Hops) → IsLooking V now role new met hss all (Some e ∷ rest)
        → Follows V now role new e all met hss later_met later false → IsLooking V now role new later_met later all rest
    looks_on met hss all e rest later_met later l f = record {
      state = f.0;
      done = l.done ++ Some e ∷ [];
      split = l.split ∙ sym (append_assoc l.done (Some e ∷ []) rest);
      handled = all_and later_met l.done (Some e) (wider_by met later_met f.2 l.done l.handled) f.1;
    }

    pub looked_at : (met : Names) (hss : List Hops) (all : Hops) → IsLooking V now role new met hss all [] → IsOpen V now role new met hss
    looked_at met hss all l = closed met all hss l.state (subst (λ t. AllByRecursion (Handles V now role new met) t) (sym (l.split ∙ append-nil l.done)) l.handled)

    -- ---- the top role

    pub top_vouches : V.top.role ≡ role → MeetsEdge V V.top new → Vouched V role new now
    top_vouches same meets = vouched_by role new (V.top.role ∷ []) V.top begins same meets

    pub vouches_top : V.top.role ≡ role → Vouched V role new now → MeetsEdge V V.top new
    vouches_top same v = let s = shown role new v in by_reaching s.seen s.last s.reaches s.ends s.meets
      where
        by_reaching : (seen : Names) (e : Edge) → Reaches V now seen e → e.role ≡ role → MeetsEdge V e new → MeetsEdge V V.top new
        by_reaching seen e begins ends meets = meets
        by_reaching seen e (goes_on {seen = before} {next = next} middle i h good at fresh) ends meets =
            absurd (off before V.top.role next.role (same ∙ sym ends) (top_seen before middle h) fresh)
