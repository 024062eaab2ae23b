-- How many checks the entries up to a place take, and which keys have signed among them.
use Rattle.std.proofs.Common.{◌≡◌, ℕ, zero, suc, ◌+◌, ◌-◌, ◌≤◌, List, [], ◌∷◌, ◌++◌, length, take, slice_get, Some, refl, sym, subst, arith, ◌⊎◌, inl, inr}
use Rattle.std.specs.List.{AllByRecursion}
use Rattle.keys_roles.specs.Plain.{Table, RoleRule, Signature}
use Rattle.keys_roles.specs.Rules.{Counts, Meets}
use Rattle.keys_roles.specs.Verdicts.{TakesChecks, TakesEntry, Verdict, named_key}
use Rattle.keys_roles.specs.steps.Counting.{AreAmong, AreChecked, CountsBy, IsIn, IsTaken}
use Rattle.keys_roles.proofs.Elements.{each_more, for_each, of_each}
use Rattle.keys_roles.proofs.Tops.{counts_from, maker_of}

module _ (rule : RoleRule) (table : Table) (known : List Verdict) (entries : List Signature) where
  -- what so many entries from a place on take, is the rest of what those up to them take
  abbrev pub HasTaken : ℕ → List Signature → ℕ → Type 0
  HasTaken place rest taken = (k b : ℕ) → TakesChecks rule table known place (take k rest) b → TakesChecks rule table known 0 (take (place + k) entries) (taken + b)

  moved : (n m a b : ℕ) → n ≡ m → a ≡ b → TakesChecks rule table known 0 (take n entries) a → TakesChecks rule table known 0 (take m entries) b
  moved n m a b e f t =
      let N : ℕ → Type 0 = λ k. TakesChecks rule table known 0 (take k entries) a in
      let A : ℕ → Type 0 = λ k. TakesChecks rule table known 0 (take m entries) k in
      subst A f (subst N e t)

  pub none_taken : (taken : ℕ) → taken ≡ 0 → HasTaken 0 entries taken
  none_taken taken e k b t = moved k (0 + k) b (taken + b) (omega arith) (omega (arith, e)) t

  pub entry_taken : (n : ℕ) (left : List Signature) (e : Signature) (later : List Signature) (taken here taken' : ℕ) → left ≡ e ∷ later → HasTaken n left taken
      → TakesEntry known n (named_key rule table e.keyid) e.sig here → taken' ≡ taken + here → HasTaken (n + 1) later taken'
  entry_taken n left e later taken here taken' at before entry more k b t =
      let on : n + 1 ≡ suc n = omega arith in
      let P : ℕ → Type 0 = λ m. TakesChecks rule table known m (take k later) b in
      let all : TakesChecks rule table known n (e ∷ take k later) (here + b) = (here, b, refl, entry, subst P on t) in
      let L : List Signature → Type 0 = λ l. TakesChecks rule table known n (take (suc k) l) (here + b) in
      moved (n + suc k) (n + 1 + k) (taken + (here + b)) (taken' + b) (omega arith) (omega (arith, more)) (before (suc k) (here + b) (subst L (sym at) all))

  pub taken_up_to : (n taken : ℕ) (rest : List Signature) → HasTaken n rest taken → TakesChecks rule table known 0 (take n entries) taken
  taken_up_to n taken rest before = moved (n + 0) n (taken + 0) taken (omega arith) (omega arith) (before 0 0 refl)

-- what stands among the first elements stands among one more
in_take : {X : Type 0} → (n : ℕ) (xs : List X) (x : X) → IsIn (take n xs) x → IsIn (take (suc n) xs) x
in_take zero xs x h = absurd h
in_take (suc n) [] x h = h
in_take (suc n) (y ∷ ys) x (inl h) = inl h
in_take (suc n) (y ∷ ys) x (inr h) = inr (in_take n ys x h)

last_in : {X : Type 0} → (n : ℕ) (xs : List X) (x : X) → slice_get xs n ≡ Some x → IsIn (take (suc n) xs) x
last_in zero [] x h = absurd (cc)
last_in zero (y ∷ ys) x h = inl (let e : y ≡ x = cc in e)
last_in (suc n) [] x h = absurd (cc)
last_in (suc n) (y ∷ ys) x h = inr (last_in n ys x h)

module _ (rule : RoleRule) (table : Table) (signed : List ℕ) (entries : List Signature) where
  abbrev pub Among : ℕ → List (List ℕ) → Type 0
  Among n tops = AllByRecursion (Counts rule table signed (take n entries)) tops

  one_on : (n : ℕ) (tops : List (List ℕ)) → Among (suc n) tops → Among (n + 1) tops
  one_on n tops h = let P : ℕ → Type 0 = λ k. Among k tops in let e : suc n ≡ n + 1 = omega arith in subst P e h

  later : (n : ℕ) (tops : List (List ℕ)) → Among n tops → Among (suc n) tops
  later n tops all = for_each (Counts rule table signed (take (suc n) entries)) tops (λ top h.
      let maker = maker_of rule table signed (take n entries) top (of_each (Counts rule table signed (take n entries)) tops top all h) in
      counts_from rule table signed (take (suc n) entries) maker.entry top (in_take n entries maker.entry maker.listed) maker.by)

  pub among_none : (n : ℕ) (tops : List (List ℕ)) → Among n tops → Among (n + 1) tops
  among_none n tops all = one_on n tops (later n tops all)

  pub among_some : (n : ℕ) (entry : Signature) (old new : List (List ℕ)) (top : List ℕ) → slice_get entries n ≡ Some entry → CountsBy rule table signed entry top
      → IsTaken top old new → Among n old → Among (n + 1) new
  among_some n entry old new top at by (inl h) all = let P : List (List ℕ) → Type 0 = λ ts. Among (n + 1) ts in subst P (sym h.1) (among_none n old all)
  among_some n entry old new top at by (inr h) all =
      let P : List (List ℕ) → Type 0 = λ ts. Among (n + 1) ts in
      let counts = counts_from rule table signed (take (suc n) entries) entry top (last_in n entries entry at) by in
      subst P (sym h.1) (one_on n (old ++ top ∷ []) (each_more (Counts rule table signed (take (suc n) entries)) old top (later n old all) counts))

-- where the count ended, in the words of the whole call
pub ended_met : (rule : RoleRule) (table : Table) (signed : List ℕ) (known : List Verdict) (entries : List Signature) (most count before after total len : ℕ) → rule.threshold ≡ most
    → length entries ≡ len → total ≡ after → AreChecked rule table signed known entries most count (after - before)
    → (n : ℕ) × (TakesChecks rule table known 0 (take n entries) (total - before)) × ((len ≤ n) ⊎ Meets rule table signed (take n entries))
ended_met rule table signed known entries most count before after total len asked long same c = (c.n, subst T (sym same) c.taken, of c.ended)
  where
    T : ℕ → Type 0
    T k = TakesChecks rule table known 0 (take c.n entries) (k - before)

    of : (length entries ≤ c.n) ⊎ ((most ≤ count) × AreAmong rule table signed (take c.n entries) count) → (len ≤ c.n) ⊎ Meets rule table signed (take c.n entries)
    of (inl h) = inl (omega (arith, h, long))
    of (inr h) =
        let among = h.1 in
        let many = among.many in
        inr (record { keys = among.keys; distinct = among.distinct; enough = omega (arith, asked, many, h.0); each = among.each })
