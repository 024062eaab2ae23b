-- Whether the bytes begin a text within the limits is found by trying each way to end them in a few bytes. So some
-- beginning of the bytes is the longest.
use Rattle.std.proofs.Common.{◌≡◌, ℕ, zero, suc, ◌<◌, ◌≤◌, ◌⊎◌, inl, inr, List, [], ◌∷◌, ◌++◌, length, take, true, refl, subst, ap, arith}
use Rattle.std.proofs.lemmas.Bool.{cases_lt}
use Rattle.canonical_json.specs.Json.{Json, null}
use Rattle.canonical_json.specs.Spelling.{spelling, IsAllowed, IsCanonical}
use Rattle.canonical_json.specs.Faults.{Begins, IsLongestBeginning, IsReadFault}
use Rattle.canonical_json.specs.declared.ReadFault.{ReadFault}
use Rattle.canonical_json.specs.declared.ReadFault.TheVariants.{OutOfMemory}
use Rattle.canonical_json.specs.steps.Reading.{Outcome, got, bad, value_at, closed, whole_at, Stops}
use Rattle.canonical_json.proofs.Whole.{closed_got, whole_sound, whole_refused}
use Rattle.canonical_json.proofs.WhichFault.{which_fault}
use Rattle.canonical_json.proofs.Forms.{allowed, good}
use Rattle.canonical_json.proofs.TextEndings.{Bytes}
use Rattle.canonical_json.proofs.Endings.{enough, value_ends}

-- it holds, or it does not
abbrev Decided : Type 0 → Type 0
Decided A = A ⊎ (A → ⊥)

-- ---- trying each of a few bytes

abbrev Below : (ℕ → Type 0) → ℕ → Type 0
Below P n = (b : ℕ) × (b < n) × P b

one_of_below : (P : ℕ → Type 0) → ((b : ℕ) → Decided (P b)) → (n : ℕ) → Decided (Below P n)
one_of_below P decide zero = inr (λ f. let l = f.1 in omega arith)
one_of_below P decide (suc n) =
    elim (decide n) as (λ d. Decided (Below P (suc n))) [
      | inl p ↦ inl (n, omega arith, p)
      | inr here ↦
          elim (one_of_below P decide n) as (λ d. Decided (Below P (suc n))) [
            | inl f ↦ inl (f.0, (let l = f.1 in omega arith), f.2)
            | inr none ↦ inr (no_more here none)
          ]
    ]
  where
    no_more : (P n → ⊥) → (Below P n → ⊥) → Below P (suc n) → ⊥
    no_more here none f =
        let l = f.1 in
        elim (cases_lt f.0 n) as (λ d. ⊥) [
          | inl h ↦ none (f.0, h, f.2)
          | inr h ↦ let last : f.0 ≡ n = omega arith in here (subst P last f.2)
        ]

-- at most so many bytes of which P holds
abbrev Few : (List ℕ → Type 0) → ℕ → Type 0
Few P n = (xs : List ℕ) × (length xs ≤ n) × Bytes xs × P xs

few_or_none : (P : List ℕ → Type 0) → ((xs : List ℕ) → Decided (P xs)) → (n : ℕ) → Decided (Few P n)
few_or_none P decide zero =
    elim (decide []) as (λ d. Decided (Few P zero)) [
      | inl p ↦ inl ([], omega arith, tt, p)
      | inr none ↦ inr (no_bytes none)
    ]
  where
    no_bytes : (P [] → ⊥) → Few P zero → ⊥
    no_bytes none ([], l, b, p) = none p
    no_bytes none (x ∷ xs, l, b, p) = omega arith
few_or_none P decide (suc n) =
    elim (decide []) as (λ d. Decided (Few P (suc n))) [
      | inl p ↦ inl ([], omega arith, tt, p)
      | inr none ↦
          elim (one_of_below (λ b. Few (λ xs. P (b ∷ xs)) n) (λ b. few_or_none (λ xs. P (b ∷ xs)) (λ xs. decide (b ∷ xs)) n) 256) as (λ d. Decided (Few P (suc n))) [
            | inl f ↦ let l = f.2.1 in inl (f.0 ∷ f.2.0, omega arith, (f.1, f.2.2), f.2.3)
            | inr other ↦ inr (no_first none other)
          ]
    ]
  where
    no_first : (P [] → ⊥) → (Below (λ b. Few (λ xs. P (b ∷ xs)) n) 256 → ⊥) → Few P (suc n) → ⊥
    no_first none other ([], l, b, p) = none p
    no_first none other (x ∷ xs, l, b, p) = other (x, b.0, (xs, (omega arith), b.1, p))

-- ---- whether the bytes begin a text

canonical_or_not : (bs : List ℕ) → Decided ((v : Json) × IsCanonical v bs)
canonical_or_not bs = by_outcome (whole_at bs) refl
  where
    by_outcome : (o : Outcome Json) → whole_at bs ≡ o → Decided ((v : Json) × IsCanonical v bs)
    by_outcome (got v rest) e = inl (v, whole_sound bs v (ap closed (closed_got (value_at true 32 bs) v rest e)))
    by_outcome (bad e rest) h = inr (λ c. whole_refused bs e (rest, h) c.0 c.1)

begins_or_not : (bs : List ℕ) → Decided (Begins IsAllowed bs)
begins_or_not bs =
    elim (few_or_none (λ more. (v : Json) × IsCanonical v (bs ++ more)) (λ more. canonical_or_not (bs ++ more)) (enough (length bs) 32)) as (λ d. Decided (Begins IsAllowed bs)) [
      | inl f ↦ inl (f.3.0, f.0, f.3.1.allowed, f.3.1.spelled)
      | inr none ↦ inr (λ b.
          let r = value_ends b.0 32 (length bs) bs b.1 (good b.0 b.2) (omega arith) b.3 in
          none (r.more, r.few, r.bytes, (r.whole, record { allowed = allowed r.whole r.holds; spelled = r.spells })))
    ]

-- ---- the longest beginning

-- the longest of the beginnings up to n bytes
record IsLongestUpTo (bytes : List ℕ) (n place : ℕ) : Type 0 where
  pub within : place ≤ n
  pub begins : Begins IsAllowed (take place bytes)
  pub longest : (k : ℕ) → place < k → k ≤ n → Begins IsAllowed (take k bytes) → ⊥

one_more : (bytes : List ℕ) (n place : ℕ) → (Begins IsAllowed (take (suc n) bytes) → ⊥) → IsLongestUpTo bytes n place → IsLongestUpTo bytes (suc n) place
one_more bytes n place h b = record { within = (let w = b.within in omega arith); begins = b.begins; longest = longest }
  where
    longest : (k : ℕ) → place < k → k ≤ suc n → Begins IsAllowed (take k bytes) → ⊥
    longest k l m begins =
        elim (cases_lt n k) as (λ s. ⊥) [
          | inl p ↦ let last : k ≡ suc n = omega arith in h (rw last at begins)
          | inr p ↦ b.longest k l p begins
        ]

longest_up_to : (bytes : List ℕ) (n : ℕ) → (place : ℕ) × IsLongestUpTo bytes n place
longest_up_to bytes zero = (
  0,
  record {
    within = omega arith;
    begins = (null, spelling null, record { proper = tt; integers = tt; nesting = omega arith }, refl);
    longest = λ k l m b. absurd (omega arith);
  },
)
longest_up_to bytes (suc n) =
    elim (begins_or_not (take (suc n) bytes)) as (λ d. (place : ℕ) × IsLongestUpTo bytes (suc n) place) [
      | inl b ↦ (suc n, record { within = omega arith; begins = b; longest = λ k l m b. absurd (omega arith) })
      | inr none ↦ let r = longest_up_to bytes n in (r.0, one_more bytes n r.0 none r.1)
    ]

pub longest_beginning : (bytes : List ℕ) → (place : ℕ) × IsLongestBeginning bytes place
longest_beginning bytes =
    let r = longest_up_to bytes (length bytes) in
    (r.0, record { within = r.1.within; begins = r.1.begins; longest = r.1.longest })

-- ---- the fault at it

pub stops_at_fault : (bytes : List ℕ) (e : ReadFault) → Stops (whole_at bytes) e → IsReadFault bytes e
stops_at_fault bytes e s =
    let l = longest_beginning bytes in
    record { none = whole_refused bytes e s; place = l.0; longest = l.1; kind = which_fault bytes e s l.0 l.1 }

pub fault_by : (bytes : List ℕ) (e : ReadFault) → (e ≡ OutOfMemory) ⊎ Stops (whole_at bytes) e → (e ≡ OutOfMemory) ⊎ IsReadFault bytes e
fault_by bytes e (inl p) = inl p
fault_by bytes e (inr s) = inr (stops_at_fault bytes e s)

one_longest : (bytes : List ℕ) (j k : ℕ) → IsLongestBeginning bytes j → IsLongestBeginning bytes k → j ≡ k
one_longest bytes j k p q =
    let not_less : j < k → ⊥ = λ h. p.longest k h q.within q.begins in
    let not_more : k < j → ⊥ = λ h. q.longest j h p.within p.begins in
    omega (arith, not_less, not_more)

pub same_place : (bytes : List ℕ) (e f : ReadFault) (p : IsReadFault bytes e) (q : IsReadFault bytes f) → p.place ≡ q.place
same_place bytes e f p q = one_longest bytes p.place q.place p.longest q.longest
