-- The fault at which the reader stops is the one that the byte behind the longest beginning makes.
use Rattle.std.proofs.Common.{◌≡◌, ◌≢◌, ℕ, suc, ◌+◌, ◌<◌, ◌⊎◌, inl, inr, List, [], ◌∷◌, ◌++◌, true, length, take, drop, slice_index, refl, sym, subst, ap, ap₂, ◌∙◌, append_assoc, append-nil, arith, length-append, length-take-le}
use Rattle.std.proofs.lemmas.Bool.{cases_lt}
use Rattle.std.proofs.lemmas.List.{take-append-drop}
use Rattle.std.proofs.Math.Seq.{take-append_seam, get_or-append_seam}
use Rattle.canonical_json.specs.Json.{Json}
use Rattle.canonical_json.specs.Spelling.{spelling, IsProper, IsAllowed}
use Rattle.canonical_json.specs.Faults.{Begins, OnlyLimitForbids, FaultAt, IsLongestBeginning}
use Rattle.canonical_json.specs.steps.Reading.{Outcome, got, bad, value_at, closed, whole_at, Stops}
use Rattle.canonical_json.specs.declared.ReadFault.{ReadFault}
use Rattle.canonical_json.specs.declared.ReadFault.TheVariants.{NotCanonical, TooDeep, IntegerRange, OutOfMemory}
use Rattle.canonical_json.proofs.Forms.{shorter_begins, allowed, good}
use Rattle.canonical_json.proofs.Sound.{value_sound}
use Rattle.canonical_json.proofs.Complete.{value_again}
use Rattle.canonical_json.proofs.Raised.{AtLimit, proper_read}
use Rattle.canonical_json.proofs.Limits.{LimitByte, Limit, ValueHolds, bad_parts, got_bad}
use Rattle.canonical_json.proofs.LimitsInside.{value_limit}

abbrev AllowedAt : List ℕ → ReadFault → List ℕ → Type 0
AllowedAt bytes e rest = Limit (ValueHolds (value_at true 32) 32 e) e bytes rest

accepts : (v : Json) → IsAllowed v → value_at true 32 (spelling v) ≡ got v []
accepts v a = ap (value_at true 32) (sym (append-nil (spelling v))) ∙ value_again true v 32 [] (good v a) tt

-- ---- at a limit

module _ (bytes : List ℕ) (e : ReadFault) (rest : List ℕ) (l : AllowedAt bytes e rest) where
  taken : take (length l.front) bytes ≡ l.front
  taken = ap (take (length l.front)) l.splits ∙ take-append_seam l.front (l.c ∷ l.behind)

  front_begins : Begins IsAllowed (take (length l.front) bytes)
  front_begins =
      let can = l.holds.can in
      (can.0, can.1, allowed can.0 can.2, ap (λ (xs : List ℕ). xs ++ can.1) taken ∙ can.3)

  count : length bytes ≡ length l.front + suc (length l.behind)
  count = ap length l.splits ∙ length-append l.front (l.c ∷ l.behind)

  -- no text within the limits has the byte there
  no_further : (xs rest : List ℕ) → bytes ≡ xs ++ rest → length l.front < length xs → Begins IsAllowed xs → ⊥
  no_further xs rest e h b =
      let one = length-append l.front (l.c ∷ []) in
      let s = shorter_begins (l.front ++ l.c ∷ []) xs l.behind rest (append_assoc l.front (l.c ∷ []) l.behind ∙ sym l.splits ∙ e) (omega arith) in
      let spelled : spelling b.0 ≡ l.front ++ l.c ∷ (s.0 ++ b.1) =
      sym b.3 ∙ ap (λ (zs : List ℕ). zs ++ b.1) s.1 ∙ append_assoc (l.front ++ l.c ∷ []) s.0 b.1 ∙ append_assoc l.front (l.c ∷ []) (s.0 ++ b.1) in
      got_bad b.0 [] _ (l.c ∷ (s.0 ++ b.1)) (sym (accepts b.0 b.2) ∙ ap (value_at true 32) spelled ∙ l.holds.stays (s.0 ++ b.1))

  limit_place : (place : ℕ) → IsLongestBeginning bytes place → length l.front ≡ place
  limit_place place b =
      let size = count in
      let within = b.within in
      let taken_size = length-take-le place bytes within in
      let not_less : place < length l.front → ⊥ = λ h. b.longest (length l.front) h (omega arith) front_begins in
      let not_more : length l.front < place → ⊥ = λ h. no_further (take place bytes) (drop place bytes) (sym (take-append-drop place bytes)) (omega arith) b.begins in
      omega (arith, not_less, not_more)

  limit_forbids : OnlyLimitForbids bytes (length l.front)
  limit_forbids =
      let size = count in
      let beyond = l.holds.beyond in
      let one = length-append l.front (l.c ∷ []) in
      let cut : take (length l.front + 1) bytes ≡ l.front ++ l.c ∷ [] =
      ap₂ (λ (n : ℕ) (xs : List ℕ). take n xs) (sym one) (l.splits ∙ sym (append_assoc l.front (l.c ∷ []) l.behind)) ∙ take-append_seam (l.front ++ l.c ∷ []) l.behind in
      (omega arith, (beyond.0, beyond.1, beyond.2, ap (λ (xs : List ℕ). xs ++ beyond.1) cut ∙ append_assoc l.front (l.c ∷ []) beyond.1 ∙ beyond.3))

  limit_byte : slice_index bytes (length l.front) ≡ l.c
  limit_byte = ap (λ (xs : List ℕ). slice_index xs (length l.front)) l.splits ∙ get_or-append_seam l.front l.c l.behind 0

fault_from_byte : (bytes : List ℕ) (place : ℕ) (e : ReadFault) → OnlyLimitForbids bytes place → LimitByte e (slice_index bytes place) → FaultAt bytes place e
fault_from_byte bytes place NotCanonical o b = absurd b
fault_from_byte bytes place TooDeep o b = (o, b)
fault_from_byte bytes place IntegerRange o b = (o, b)
fault_from_byte bytes place OutOfMemory o b = b

limit_fault : (bytes : List ℕ) (e : ReadFault) (rest : List ℕ) → AllowedAt bytes e rest → (place : ℕ) → IsLongestBeginning bytes place → FaultAt bytes place e
limit_fault bytes e rest l place b =
    subst (λ (k : ℕ). FaultAt bytes k e) (limit_place bytes e rest l place b)
    (fault_from_byte bytes (length l.front) e (limit_forbids bytes e rest l) (subst (LimitByte e) (sym (limit_byte bytes e rest l)) l.byte))

-- ---- at no limit

-- where some text goes on only beyond a limit, the reader stops at that limit, or the bytes begin a text within the limits
beyond_limit : (xs rest : List ℕ) (w : Json) (more : List ℕ) → IsProper w → xs ++ more ≡ spelling w → Begins IsAllowed xs ⊎ AtLimit (value_at true 32 (xs ++ rest))
beyond_limit xs rest w more proper e = by_reading (proper_read 32 w [] proper tt)
  where
    all : spelling w ++ [] ≡ xs ++ more
    all = append-nil (spelling w) ∙ sym e

    by_length : (f : ReadFault) (s : List ℕ) → f ≢ NotCanonical → AllowedAt (spelling w ++ []) f s → Begins IsAllowed xs ⊎ AtLimit (value_at true 32 (xs ++ rest))
    by_length f s other l =
        elim (cases_lt (length l.front) (length xs)) as (λ s. Begins IsAllowed xs ⊎ AtLimit (value_at true 32 (xs ++ rest))) [
          | inl h ↦
              let one = length-append l.front (l.c ∷ []) in
              let b = shorter_begins (l.front ++ l.c ∷ []) xs l.behind more (append_assoc l.front (l.c ∷ []) l.behind ∙ sym l.splits ∙ all) (omega arith) in
              let whole : xs ++ rest ≡ l.front ++ l.c ∷ (b.0 ++ rest) =
              ap (λ (zs : List ℕ). zs ++ rest) b.1 ∙ append_assoc (l.front ++ l.c ∷ []) b.0 rest ∙ append_assoc l.front (l.c ∷ []) (b.0 ++ rest) in
              inr (f, l.c ∷ (b.0 ++ rest), other, ap (value_at true 32) whole ∙ l.holds.stays (b.0 ++ rest))
          | inr h ↦
              let can = l.holds.can in
              let b = shorter_begins xs l.front more (l.c ∷ l.behind) (sym all ∙ l.splits) h in
              inl (can.0, b.0 ++ can.1, allowed can.0 can.2, sym (append_assoc xs b.0 can.1) ∙ ap (λ (zs : List ℕ). zs ++ can.1) (sym b.1) ∙ can.3)
        ]

    by_reading : (value_at true 32 (spelling w ++ []) ≡ got w []) ⊎ AtLimit (value_at true 32 (spelling w ++ [])) → Begins IsAllowed xs ⊎ AtLimit (value_at true 32 (xs ++ rest))
    by_reading (inl r) = inl (w, more, allowed w (value_sound true 32 (spelling w ++ []) w [] r).0, e)
    by_reading (inr s) = by_length s.0 s.1 s.2 (value_limit 32 (spelling w ++ []) s.0 s.1 s.2 s.3)

no_limit_fault : (bytes : List ℕ) → (AtLimit (value_at true 32 bytes) → ⊥) → (place : ℕ) → IsLongestBeginning bytes place → FaultAt bytes place NotCanonical
no_limit_fault bytes h place b forbids =
    let inside = forbids.0 in
    let go = forbids.1 in
    elim (beyond_limit (take (place + 1) bytes) (drop (place + 1) bytes) go.0 go.1 go.2 go.3) as (λ s. ⊥) [
      | inl longer ↦ b.longest (place + 1) (omega arith) (omega arith) longer
      | inr s ↦ h (s.0, s.1, s.2, ap (value_at true 32) (sym (take-append-drop (place + 1) bytes)) ∙ s.3)
    ]

-- ---- all of the bytes

closed_other : (o : Outcome Json) (e : ReadFault) (rest : List ℕ) → e ≢ NotCanonical → closed o ≡ bad e rest → o ≡ bad e rest
closed_other (got v []) e rest other h = absurd (got_bad v [] e rest h)
closed_other (got v (b ∷ bs)) e rest other h = absurd (other (sym (bad_parts NotCanonical e (b ∷ bs) rest h).0))
closed_other (bad f s) e rest other h = h

is_plain : (e : ReadFault) → (e ≡ NotCanonical) ⊎ (e ≢ NotCanonical)
is_plain NotCanonical = inl refl
is_plain TooDeep = inr (λ e. cc)
is_plain IntegerRange = inr (λ e. cc)
is_plain OutOfMemory = inr (λ e. cc)

no_limit_there : (bytes : List ℕ) (e : ReadFault) → e ≡ NotCanonical → Stops (whole_at bytes) e → AtLimit (value_at true 32 bytes) → ⊥
no_limit_there bytes e p s l =
    let same : bad l.0 l.1 ≡ bad e s.0 = sym (ap closed l.3) ∙ s.1 in
    l.2 ((bad_parts l.0 e l.1 s.0 same).0 ∙ p)

pub which_fault : (bytes : List ℕ) (e : ReadFault) → Stops (whole_at bytes) e → (place : ℕ) → IsLongestBeginning bytes place → FaultAt bytes place e
which_fault bytes e s place b =
    elim (is_plain e) as (λ d. FaultAt bytes place e) [
      | inl p ↦ subst (FaultAt bytes place) (sym p) (no_limit_fault bytes (no_limit_there bytes e p s) place b)
      | inr other ↦ limit_fault bytes e s.0 (value_limit 32 bytes e s.0 other (closed_other (value_at true 32 bytes) e s.0 other s.1)) place b
    ]
