-- What stands at a key after rows were put in, whatever the order of the rows before.
use Rattle.std.proofs.Common.{◌≡◌, Bool, true, false, cond, List, [], ◌∷◌, Option, Some, None, refl, ap, subst}
use Rattle.std.specs.Option.{option_or}
use Rattle.delegations.specs.Rows.{value_at, with_row}

-- the value at the key, where `later` is the value among the rows that are put in
abbrev pub found_with : {K A : Type 0} → (K → K → Bool) → (K → K → Bool) → List (K × A) → Option A → K → Option A
found_with below same [] later q = later
found_with below same (row ∷ rows) later q =
    cond (same row.0 q) (Some row.1) (cond (below q row.0) (option_or later (value_at same (row ∷ rows) q)) (found_with below same rows later q))

or_none : {A : Type 0} (o : Option A) → option_or o None ≡ o
or_none None = refl
or_none (Some x) = refl

module _ {K A : Type 0} (below same : K → K → Bool)
    (chain : (a b c : K) → below a b ≡ true → below b c ≡ true → below a c ≡ true)
    (apart : (a b : K) → below a b ≡ true → same b a ≡ false)
    (one : (a b : K) → same a b ≡ true → a ≡ b) where
  pub skipped : (rows : List (K × A)) (k : K) (v : A) (q : K) → same k q ≡ false → value_at same (with_row below rows k v) q ≡ value_at same rows q
  skipped [] k v q h = rw h refl
  skipped (row ∷ rows) k v q h = split (skipped rows k v q h) (below k row.0)
    where
      split : value_at same (with_row below rows k v) q ≡ value_at same rows q
          → (b : Bool) → value_at same (cond b ((k, v) ∷ (row ∷ rows)) (row ∷ with_row below rows k v)) q ≡ value_at same (row ∷ rows) q
      split rest true = rw h refl
      split rest false = ap (λ o. cond (same row.0 q) (Some row.1) o) rest

  -- nothing is put in
  pub found_alone : (rows : List (K × A)) (q : K) → value_at same rows q ≡ found_with below same rows None q
  found_alone [] q = refl
  found_alone (row ∷ rows) q = split (found_alone rows q) (same row.0 q) (below q row.0)
    where
      split : value_at same rows q ≡ found_with below same rows None q → (s b : Bool) → cond s (Some row.1) (value_at same rows q)
          ≡ cond s (Some row.1) (cond b (cond s (Some row.1) (value_at same rows q)) (found_with below same rows None q))
      split rest true b = refl
      split rest false true = refl
      split rest false false = rest

  -- one row is put in
  pub found_put : (rows : List (K × A)) (k : K) (v : A) (later : Option A) (q : K)
      → found_with below same (with_row below rows k v) later q ≡ found_with below same rows (cond (same k q) (Some v) later) q
  found_put [] k v later q = split (same k q) (below q k)
    where
      split : (s b : Bool) → cond s (Some v) (cond b (option_or later (cond s (Some v) None)) later) ≡ cond s (Some v) later
      split true b = refl
      split false true = or_none later
      split false false = refl
  found_put (row ∷ rows) k v later q = split (found_put rows k v later q) (below k row.0) refl
    where
      past : (d : Bool) → below q k ≡ d → below k row.0 ≡ true
          → cond d (option_or later (value_at same (row ∷ rows) q)) (found_with below same (row ∷ rows) later q) ≡ found_with below same (row ∷ rows) later q
      past true d h =
          let b : below q row.0 ≡ true = chain q k row.0 d h in
          let a : same row.0 q ≡ false = apart q row.0 b in
          rw (a, b) refl
      past false d h = refl

      front : (s : Bool) → same k q ≡ s → below k row.0 ≡ true
          → cond s (Some v) (cond (below q k) (option_or later (cond s (Some v) (value_at same (row ∷ rows) q))) (found_with below same (row ∷ rows) later q))
          ≡ found_with below same (row ∷ rows) (cond s (Some v) later) q
      front true s h =
          let b : below q row.0 ≡ true = subst (λ (x : K). below x row.0 ≡ true) (one k q s) h in
          let a : same row.0 q ≡ false = apart q row.0 b in
          rw (a, b) refl
      front false s h = past (below q k) refl h

      same_later : (s : Bool) → same k q ≡ s → below k row.0 ≡ false → below q row.0 ≡ true
          → option_or later (value_at same (with_row below rows k v) q) ≡ option_or (cond s (Some v) later) (value_at same rows q)
      same_later true s h b =
          let e : below q row.0 ≡ false = subst (λ (x : K). below x row.0 ≡ false) (one k q s) h in
          cc
      same_later false s h b = ap (λ o. option_or later o) (skipped rows k v q s)

      behind : found_with below same (with_row below rows k v) later q ≡ found_with below same rows (cond (same k q) (Some v) later) q
          → (s b : Bool) → below q row.0 ≡ b → below k row.0 ≡ false
          → cond s (Some row.1) (cond b (option_or later (cond s (Some row.1) (value_at same (with_row below rows k v) q))) (found_with below same (with_row below rows k v) later q))
          ≡ cond s (Some row.1) (cond b (option_or (cond (same k q) (Some v) later) (cond s (Some row.1) (value_at same rows q))) (found_with below same rows (cond (same k q) (Some v) later) q))
      behind rest true b e h = refl
      behind rest false true e h = same_later (same k q) refl h e
      behind rest false false e h = rest

      split : found_with below same (with_row below rows k v) later q ≡ found_with below same rows (cond (same k q) (Some v) later) q
          → (b : Bool) → below k row.0 ≡ b
          → found_with below same (cond b ((k, v) ∷ (row ∷ rows)) (row ∷ with_row below rows k v)) later q
          ≡ found_with below same (row ∷ rows) (cond (same k q) (Some v) later) q
      split rest true h = front (same k q) refl h
      split rest false h = behind rest (same row.0 q) (below q row.0) refl h
