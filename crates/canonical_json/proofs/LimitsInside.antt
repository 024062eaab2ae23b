-- Where the reader stops at a limit inside a list or an object, and in any value.
use Rattle.std.proofs.Common.{◌≡◌, ◌≢◌, ℕ, zero, suc, ◌⊎◌, inl, inr, List, [], ◌∷◌, ◌++◌, true, false, ◌==◌, Option, Some, None, length, refl, sym, subst, ap, ◌∙◌, append_assoc, arith, eqb-true, length-append, IsUtf8}
use Rattle.std.proofs.lemmas.Bool.{eqb-false}
use Rattle.std.specs.List.{AllByRecursion}
use Rattle.canonical_json.specs.Json.{Json, null, array, object, Items, no_items, item, Members, no_members, member, EachItem, EachMember, names}
use Rattle.canonical_json.specs.Spelling.{spelling, IsSound, IsProper}
use Rattle.canonical_json.specs.steps.Texts.{closed_text}
use Rattle.canonical_json.specs.Faults.{IsOpening}
use Rattle.canonical_json.specs.steps.Reading.{Outcome, got, bad, reading, as_read, mark_at, is_behind, name_at, value_with, more_items, items_at, list_at, more_members, members_at, object_at, value_at}
use Rattle.canonical_json.specs.declared.ReadFault.{ReadFault}
use Rattle.canonical_json.specs.declared.ReadFault.TheVariants.{NotCanonical, TooDeep, IntegerRange, OutOfMemory}
use Rattle.canonical_json.proofs.Forms.{items_text, items_text_is, members_text, members_text_is, member_text, member_closed_is, full_tail, full_members_tail, member_front, member_front_is, Good, GoodItems, IsFull, HasMembers, GoodMembers, RisingBehind, rising_more, by_test}
use Rattle.canonical_json.proofs.Sound.{SoundReader, mark_sound, name_sound, value_sound}
use Rattle.canonical_json.proofs.Complete.{Ends, name_again, value_again, list_first}
use Rattle.canonical_json.proofs.Limits.{LimitByte, Front, FrontWith, Limit, Stays, StaysWithin, ValueHolds, limit_on, no_limit, got_bad, bad_parts, reading_bad, as_read_bad, mark_never, name_never, LimitBehind, value_with_limit}

-- behind bytes, one more byte, and more bytes
seam : (pre : List ℕ) (b : ℕ) (front rest : List ℕ) → ((pre ++ b ∷ []) ++ front) ++ rest ≡ pre ++ b ∷ (front ++ rest)
seam pre b front rest = append_assoc (pre ++ b ∷ []) front rest ∙ append_assoc pre (b ∷ []) (front ++ rest)

-- a bracket that closes behind what begins the last value
closes : (front more text : List ℕ) (b : ℕ) → front ++ more ≡ text → front ++ (more ++ b ∷ []) ≡ text ++ b ∷ []
closes front more text b e = sym (append_assoc front more (b ∷ [])) ∙ ap (λ (xs : List ℕ). xs ++ b ∷ []) e

-- a value with the comma behind it, and so a member
item_splits : (bs : List ℕ) (v : Json) (rest tail : List ℕ) → bs ≡ spelling v ++ rest → rest ≡ 44 ∷ tail → bs ≡ (spelling v ++ 44 ∷ []) ++ tail
item_splits bs v rest tail e f = e ∙ ap (λ (xs : List ℕ). spelling v ++ xs) f ∙ sym (append_assoc (spelling v) (44 ∷ []) tail)

member_splits : (bs k behind : List ℕ) (v : Json) (rest tail : List ℕ) → bs ≡ 34 ∷ closed_text k (58 ∷ behind) → behind ≡ spelling v ++ rest → rest ≡ 44 ∷ tail → bs ≡ (member_text k v ++ 44 ∷ []) ++ tail
member_splits bs k behind v rest tail e f g =
    e ∙ ap (λ (xs : List ℕ). 34 ∷ closed_text k (58 ∷ xs)) (f ∙ ap (λ (xs : List ℕ). spelling v ++ xs) g) ∙ sym (member_closed_is k v (44 ∷ tail)) ∙ sym (append_assoc (member_text k v) (44 ∷ []) tail)

-- the byte at a limit closes no list and no object
no_closing : (e : ReadFault) (c : ℕ) → LimitByte e c → (c ≡ 93) ⊎ (c ≡ 125) → ⊥
no_closing TooDeep c (inl p) (inl q) = omega arith
no_closing TooDeep c (inl p) (inr q) = omega arith
no_closing TooDeep c (inr p) (inl q) = omega arith
no_closing TooDeep c (inr p) (inr q) = omega arith
no_closing IntegerRange c p (inl q) = omega arith
no_closing IntegerRange c p (inr q) = omega arith
no_closing NotCanonical c p q = absurd p
no_closing OutOfMemory c p q = absurd p

-- the first byte stays, whatever follows the limit
first_stays : (front : List ℕ) (c : ℕ) (behind : List ℕ) (b : ℕ) (bs more : List ℕ) → b ∷ bs ≡ front ++ c ∷ behind → (t : List ℕ) × (front ++ c ∷ more ≡ b ∷ t)
first_stays [] c behind b bs more e = (more, cc)
first_stays (x ∷ front) c behind b bs more e = (front ++ c ∷ more, cc)

abbrev SoundMembers : Option (List ℕ) → Members → Type 0
SoundMembers before ms = EachMember IsSound ms × AllByRecursion IsUtf8 (names ms) × RisingBehind before (names ms)

member_front_on : (k front rest : List ℕ) → (member_front k ++ front) ++ rest ≡ 34 ∷ closed_text k (58 ∷ (front ++ rest))
member_front_on k front rest = append_assoc (member_front k) front rest ∙ member_front_is k (front ++ rest)

abbrev pub LimitReader : ℕ → (List ℕ → Outcome Json) → Type 0
LimitReader levels p = (bs : List ℕ) (e : ReadFault) (rest : List ℕ) → e ≢ NotCanonical → p bs ≡ bad e rest → Limit (ValueHolds p levels e) e bs rest

module _ (levels : ℕ) (p : List ℕ → Outcome Json) (sound : SoundReader true levels p) (again : (v : Json) (rest : List ℕ) → Good true levels v → Ends rest → p (spelling v ++ rest) ≡ got v rest)
    (limits : LimitReader levels p) where
  -- ---- lists

  record ItemsHold (e : ReadFault) (front : List ℕ) (c : ℕ) : Type 0 where
    pub stays : StaysWithin (items_at p) e front c
    pub can : Front (λ vs. GoodItems true levels vs × IsFull vs) items_text front
    pub beyond : FrontWith (λ vs. EachItem IsSound vs × IsFull vs) items_text front c

  items_turn : (n : ℕ) (bs : List ℕ) (v : Json) (rest : List ℕ) → p bs ≡ got v rest → items_at p (suc n) bs ≡ as_read (item v) (more_items (items_at p n) rest)
  unfolding items_at
  items_turn n bs v rest h = ap (λ (o : Outcome Json). reading o (λ v rest. as_read (item v) (more_items (items_at p n) rest))) h

  items_stop : (n : ℕ) (bs : List ℕ) (e : ReadFault) (rest : List ℕ) → p bs ≡ bad e rest → items_at p (suc n) bs ≡ bad e rest
  unfolding items_at
  items_stop n bs e rest h = ap (λ (o : Outcome Json). reading o (λ v rest. as_read (item v) (more_items (items_at p n) rest))) h

  -- the limit is in the first value
  item_here : (e : ReadFault) (front : List ℕ) (c : ℕ) → ValueHolds p levels e front c → ItemsHold e front c
  item_here e front c k = record { stays = stays; can = can k.can; beyond = beyond k.beyond }
    where
      stays : StaysWithin (items_at p) e front c
      stays zero more l = absurd (let long = length-append front (c ∷ more) in omega arith)
      stays (suc n) more l = items_stop n (front ++ c ∷ more) e (c ∷ more) (k.stays more)

      can : Front (Good true levels) spelling front → Front (λ vs. GoodItems true levels vs × IsFull vs) items_text front
      can f = (item f.0 no_items, f.1 ++ 93 ∷ [], (((f.2.0, tt), (λ l. (f.2.1 l, tt)), (let d = f.2.2 in omega arith)), tt), closes front f.1 (spelling f.0) 93 f.3)

      beyond : FrontWith IsProper spelling front c → FrontWith (λ vs. EachItem IsSound vs × IsFull vs) items_text front c
      beyond f = (item f.0 no_items, f.1 ++ 93 ∷ [], ((f.2, tt), tt), closes front (c ∷ f.1) (spelling f.0) 93 f.3)

  -- or behind it
  item_before : (e : ReadFault) (v : Json) (front : List ℕ) (c : ℕ) → Good true levels v → ItemsHold e front c → ItemsHold e ((spelling v ++ 44 ∷ []) ++ front) c
  item_before e v front c g k = record { stays = stays; can = can k.can; beyond = beyond k.beyond }
    where
      stays : StaysWithin (items_at p) e ((spelling v ++ 44 ∷ []) ++ front) c
      stays zero more l = absurd (let long = length-append ((spelling v ++ 44 ∷ []) ++ front) (c ∷ more) in omega arith)
      stays (suc n) more l =
          let split = seam (spelling v) 44 front (c ∷ more) in
          let count = ap length split in
          let long = length-append (spelling v) (44 ∷ (front ++ c ∷ more)) in
          ap (items_at p (suc n)) split
          ∙ items_turn n (spelling v ++ 44 ∷ (front ++ c ∷ more)) v (44 ∷ (front ++ c ∷ more)) (again v (44 ∷ (front ++ c ∷ more)) g refl)
          ∙ ap (as_read (item v)) (k.stays n more (omega arith))

      can : Front (λ vs. GoodItems true levels vs × IsFull vs) items_text front → Front (λ vs. GoodItems true levels vs × IsFull vs) items_text ((spelling v ++ 44 ∷ []) ++ front)
      can f = (
        item v f.0,
        f.1,
        (((g.0, f.2.0.0), (λ l. (g.1 l, f.2.0.1 l)), (let d = g.2 in let ds = f.2.0.2 in omega arith)), tt),
        seam (spelling v) 44 front f.1 ∙ ap (λ (xs : List ℕ). spelling v ++ xs) (ap (λ (xs : List ℕ). 44 ∷ xs) f.3 ∙ sym (full_tail f.0 f.2.1)),
      )

      beyond : FrontWith (λ vs. EachItem IsSound vs × IsFull vs) items_text front c → FrontWith (λ vs. EachItem IsSound vs × IsFull vs) items_text ((spelling v ++ 44 ∷ []) ++ front) c
      beyond f = (
        item v f.0,
        f.1,
        ((g.0, f.2.0), tt),
        seam (spelling v) 44 front (c ∷ f.1) ∙ ap (λ (xs : List ℕ). spelling v ++ xs) (ap (λ (xs : List ℕ). 44 ∷ xs) f.3 ∙ sym (full_tail f.0 f.2.1)),
      )

  more_items_bad : (next : List ℕ → Outcome Items) (bs : List ℕ) (e : ReadFault) (rest : List ℕ) → e ≢ NotCanonical → more_items next bs ≡ bad e rest → (tail : List ℕ) × (bs ≡ 44 ∷ tail) × (next tail ≡ bad e rest)
  more_items_bad next [] e rest limit h = absurd (no_limit [] e rest limit h)
  more_items_bad next (b ∷ bs) e rest limit h =
      by_test (b == 44) _ _ _ h (λ t f. (bs, ap (λ (c : ℕ). c ∷ bs) (eqb-true b 44 t), f))
      (λ t f. by_test (b == 93) _ _ _ f (λ u g. absurd (got_bad no_items bs e rest g)) (λ u g. absurd (no_limit (b ∷ bs) e rest limit g)))

  items_limit : (n : ℕ) (bs : List ℕ) (e : ReadFault) (rest : List ℕ) → e ≢ NotCanonical → items_at p n bs ≡ bad e rest → Limit (ItemsHold e) e bs rest
  unfolding items_at
  items_limit zero bs e rest limit h = absurd (no_limit bs e rest limit h)
  items_limit (suc n) bs e rest limit h =
      elim (reading_bad (p bs) _ e rest h) as (λ s. Limit (ItemsHold e) e bs rest) [
        | inl f ↦ limit_on (ValueHolds p levels e) (ItemsHold e) e [] bs bs rest refl (λ front c behind byte splits k. item_here e front c k) (limits bs e rest limit f)
        | inr r ↦
            let m = more_items_bad (items_at p n) r.1 e rest limit (as_read_bad _ _ e rest r.3) in
            let s = sound bs r.0 r.1 r.2 in
            limit_on (ItemsHold e) (ItemsHold e) e (spelling r.0 ++ 44 ∷ []) m.0 bs rest
            (item_splits bs r.0 r.1 m.0 s.1 m.1)
            (λ front c behind byte splits k. item_before e r.0 front c s.0 k)
            (items_limit n m.0 e rest limit m.2)
      ]

  record ListHolds (e : ReadFault) (front : List ℕ) (c : ℕ) : Type 0 where
    pub stays : Stays (list_at p) e front c
    pub can : Front (GoodItems true levels) items_text front
    pub beyond : FrontWith (EachItem IsSound) items_text front c

  list_limit : (bs : List ℕ) (e : ReadFault) (rest : List ℕ) → e ≢ NotCanonical → list_at p bs ≡ bad e rest → Limit (ListHolds e) e bs rest
  list_limit [] e rest limit h = absurd (no_limit [] e rest limit h)
  list_limit (b ∷ bs) e rest limit h =
      by_test (b == 93) _ _ _ h (λ t f. absurd (got_bad no_items bs e rest f))
      (λ t f. limit_on (ItemsHold e) (ListHolds e) e [] (b ∷ bs) (b ∷ bs) rest refl
      (λ front c behind byte splits k. record {
        stays = λ more.
            let first = first_stays front c behind b bs more splits in
            let size = ap length first.1 in
            ap (list_at p) first.1 ∙ list_first p b first.0 (eqb-false b 93 t) ∙ ap (items_at p (suc (suc (length first.0)))) (sym first.1)
            ∙ k.stays (suc (suc (length first.0))) more (omega arith);
        can = (k.can.0, k.can.1, k.can.2.0, k.can.3);
        beyond = (k.beyond.0, k.beyond.1, k.beyond.2.0, k.beyond.3);
      })
      (items_limit (suc (suc (length bs))) (b ∷ bs) e rest limit f))

  -- ---- objects

  record MembersHold (before : Option (List ℕ)) (e : ReadFault) (front : List ℕ) (c : ℕ) : Type 0 where
    pub stays : StaysWithin (members_at p before) e front c
    pub can : Front (λ ms. GoodMembers true levels before ms × HasMembers ms) members_text front
    pub beyond : FrontWith (λ ms. SoundMembers before ms × HasMembers ms) members_text front c

  members_turn : (before : Option (List ℕ)) (n : ℕ) (k behind : List ℕ) → IsUtf8 k → is_behind before k ≡ true
      → members_at p before (suc n) (34 ∷ closed_text k (58 ∷ behind)) ≡ reading (p behind) (λ v rest. as_read (member k v) (more_members (members_at p (Some k) n) rest))
  unfolding members_at
  members_turn before n k behind u h =
      ap (λ (o : Outcome (List ℕ)). reading o (λ k after. reading (mark_at 58 after) (λ u behind. reading (p behind) (λ v rest. as_read (member k v) (more_members (members_at p (Some k) n) rest)))))
      (name_again before k (58 ∷ behind) u h)

  members_stop : (before : Option (List ℕ)) (n : ℕ) (k behind : List ℕ) (e : ReadFault) (rest : List ℕ) → IsUtf8 k → is_behind before k ≡ true → p behind ≡ bad e rest
      → members_at p before (suc n) (34 ∷ closed_text k (58 ∷ behind)) ≡ bad e rest
  members_stop before n k behind e rest u h f =
      members_turn before n k behind u h ∙ ap (λ (o : Outcome Json). reading o (λ v rest. as_read (member k v) (more_members (members_at p (Some k) n) rest))) f

  members_go : (before : Option (List ℕ)) (n : ℕ) (k behind : List ℕ) (v : Json) (rest : List ℕ) → IsUtf8 k → is_behind before k ≡ true → p behind ≡ got v rest
      → members_at p before (suc n) (34 ∷ closed_text k (58 ∷ behind)) ≡ as_read (member k v) (more_members (members_at p (Some k) n) rest)
  members_go before n k behind v rest u h f =
      members_turn before n k behind u h ∙ ap (λ (o : Outcome Json). reading o (λ v rest. as_read (member k v) (more_members (members_at p (Some k) n) rest))) f

  -- the limit is in the first member's value
  member_here : (before : Option (List ℕ)) (e : ReadFault) (k : List ℕ) (front : List ℕ) (c : ℕ) → IsUtf8 k → is_behind before k ≡ true → ValueHolds p levels e front c
      → MembersHold before e (member_front k ++ front) c
  member_here before e k front c u h holds = record { stays = stays; can = can holds.can; beyond = beyond holds.beyond }
    where
      stays : StaysWithin (members_at p before) e (member_front k ++ front) c
      stays zero more l = absurd (let long = length-append (member_front k ++ front) (c ∷ more) in omega arith)
      stays (suc n) more l = ap (members_at p before (suc n)) (member_front_on k front (c ∷ more)) ∙ members_stop before n k (front ++ c ∷ more) e (c ∷ more) u h (holds.stays more)

      closed : (v : Json) (more : List ℕ) → front ++ more ≡ spelling v → (member_front k ++ front) ++ (more ++ 125 ∷ []) ≡ members_text (member k v no_members)
      closed v more f =
          member_front_on k front (more ++ 125 ∷ []) ∙ ap (λ (xs : List ℕ). 34 ∷ closed_text k (58 ∷ xs)) (closes front more (spelling v) 125 f) ∙ sym (member_closed_is k v (125 ∷ []))

      can : Front (Good true levels) spelling front → Front (λ ms. GoodMembers true levels before ms × HasMembers ms) members_text (member_front k ++ front)
      can f = (
        member k f.0 no_members,
        f.1 ++ 125 ∷ [],
        (((f.2.0, tt), (λ l. (f.2.1 l, tt)), (let d = f.2.2 in omega arith), (u, tt), rising_more before k [] h tt), tt),
        closed f.0 f.1 f.3,
      )

      beyond : FrontWith IsProper spelling front c → FrontWith (λ ms. SoundMembers before ms × HasMembers ms) members_text (member_front k ++ front) c
      beyond f = (member k f.0 no_members, f.1 ++ 125 ∷ [], (((f.2, tt), (u, tt), rising_more before k [] h tt), tt), closed f.0 (c ∷ f.1) f.3)

  -- or behind it
  member_before : (before : Option (List ℕ)) (e : ReadFault) (k : List ℕ) (v : Json) (front : List ℕ) (c : ℕ) → IsUtf8 k → is_behind before k ≡ true → Good true levels v → MembersHold (Some k) e front c
      → MembersHold before e ((member_text k v ++ 44 ∷ []) ++ front) c
  member_before before e k v front c u h g holds = record { stays = stays; can = can holds.can; beyond = beyond holds.beyond }
    where
      stays : StaysWithin (members_at p before) e ((member_text k v ++ 44 ∷ []) ++ front) c
      stays zero more l = absurd (let long = length-append ((member_text k v ++ 44 ∷ []) ++ front) (c ∷ more) in omega arith)
      stays (suc n) more l =
          let split = seam (member_text k v) 44 front (c ∷ more) in
          let count = ap length split in
          let long = length-append (member_text k v) (44 ∷ (front ++ c ∷ more)) in
          ap (members_at p before (suc n)) (split ∙ member_closed_is k v (44 ∷ (front ++ c ∷ more)))
          ∙ members_go before n k (spelling v ++ 44 ∷ (front ++ c ∷ more)) v (44 ∷ (front ++ c ∷ more)) u h (again v (44 ∷ (front ++ c ∷ more)) g refl)
          ∙ ap (as_read (member k v)) (holds.stays n more (omega arith))

      joined : (ms : Members) (more : List ℕ) → HasMembers ms → front ++ more ≡ members_text ms → ((member_text k v ++ 44 ∷ []) ++ front) ++ more ≡ members_text (member k v ms)
      joined ms more has f =
          seam (member_text k v) 44 front more ∙ ap (λ (xs : List ℕ). member_text k v ++ xs) (ap (λ (xs : List ℕ). 44 ∷ xs) f ∙ sym (full_members_tail ms has))

      can : Front (λ ms. GoodMembers true levels (Some k) ms × HasMembers ms) members_text front
          → Front (λ ms. GoodMembers true levels before ms × HasMembers ms) members_text ((member_text k v ++ 44 ∷ []) ++ front)
      can f =
          let m = f.2.0 in (
            member k v f.0,
            f.1,
            (((g.0, m.0), (λ l. (g.1 l, m.1 l)), (let d = g.2 in let ds = m.2 in omega arith), (u, m.3), rising_more before k (names f.0) h m.4), tt),
            joined f.0 f.1 f.2.1 f.3,
          )

      beyond : FrontWith (λ ms. SoundMembers (Some k) ms × HasMembers ms) members_text front c
          → FrontWith (λ ms. SoundMembers before ms × HasMembers ms) members_text ((member_text k v ++ 44 ∷ []) ++ front) c
      beyond f = let m = f.2.0 in (member k v f.0, f.1, (((g.0, m.0), (u, m.1), rising_more before k (names f.0) h m.2), tt), joined f.0 (c ∷ f.1) f.2.1 f.3)

  more_members_bad : (next : List ℕ → Outcome Members) (bs : List ℕ) (e : ReadFault) (rest : List ℕ) → e ≢ NotCanonical → more_members next bs ≡ bad e rest
      → (tail : List ℕ) × (bs ≡ 44 ∷ tail) × (next tail ≡ bad e rest)
  more_members_bad next [] e rest limit h = absurd (no_limit [] e rest limit h)
  more_members_bad next (b ∷ bs) e rest limit h =
      by_test (b == 44) _ _ _ h (λ t f. (bs, ap (λ (c : ℕ). c ∷ bs) (eqb-true b 44 t), f))
      (λ t f. by_test (b == 125) _ _ _ f (λ u g. absurd (got_bad no_members bs e rest g)) (λ u g. absurd (no_limit (b ∷ bs) e rest limit g)))

  members_limit : (before : Option (List ℕ)) (n : ℕ) (bs : List ℕ) (e : ReadFault) (rest : List ℕ) → e ≢ NotCanonical → members_at p before n bs ≡ bad e rest → Limit (MembersHold before e) e bs rest
  unfolding members_at
  members_limit before zero bs e rest limit h = absurd (no_limit bs e rest limit h)
  members_limit before (suc n) bs e rest limit h =
      elim (reading_bad (name_at before bs) _ e rest h) as (λ s. Limit (MembersHold before e) e bs rest) [
        | inl f ↦ absurd (name_never before bs e rest limit f)
        | inr k ↦ elim (reading_bad (mark_at 58 k.1) _ e rest k.3) as (λ s. Limit (MembersHold before e) e bs rest) [
          | inl f ↦ absurd (mark_never 58 k.1 e rest limit f)
          | inr colon ↦
              let name = name_sound before bs k.0 k.1 k.2 in
              let begins : bs ≡ 34 ∷ closed_text k.0 (58 ∷ colon.1) = name.2 ∙ ap (λ (xs : List ℕ). 34 ∷ closed_text k.0 xs) (mark_sound 58 k.1 colon.0 colon.1 colon.2) in
              elim (reading_bad (p colon.1) _ e rest colon.3) as (λ s. Limit (MembersHold before e) e bs rest) [
                | inl f ↦
                    limit_on (ValueHolds p levels e) (MembersHold before e) e (member_front k.0) colon.1 bs rest (begins ∙ sym (member_front_is k.0 colon.1))
                    (λ front c behind byte splits holds. member_here before e k.0 front c name.0 name.1 holds)
                    (limits colon.1 e rest limit f)
                | inr v ↦
                    let m = more_members_bad (members_at p (Some k.0) n) v.1 e rest limit (as_read_bad _ _ e rest v.3) in
                    let s = sound colon.1 v.0 v.1 v.2 in
                    limit_on (MembersHold (Some k.0) e) (MembersHold before e) e (member_text k.0 v.0 ++ 44 ∷ []) m.0 bs rest
                    (member_splits bs k.0 colon.1 v.0 v.1 m.0 begins s.1 m.1)
                    (λ front c behind byte splits holds. member_before before e k.0 v.0 front c name.0 name.1 s.0 holds)
                    (members_limit (Some k.0) n m.0 e rest limit m.2)
              ]
        ]
      ]

  record ObjectHolds (e : ReadFault) (front : List ℕ) (c : ℕ) : Type 0 where
    pub stays : Stays (object_at p) e front c
    pub can : Front (GoodMembers true levels None) members_text front
    pub beyond : FrontWith (SoundMembers None) members_text front c

  object_first : (b : ℕ) (bs : List ℕ) → b == 125 ≡ false → object_at p (b ∷ bs) ≡ members_at p None (suc (suc (length bs))) (b ∷ bs)
  object_first b bs t = rw t refl

  object_limit : (bs : List ℕ) (e : ReadFault) (rest : List ℕ) → e ≢ NotCanonical → object_at p bs ≡ bad e rest → Limit (ObjectHolds e) e bs rest
  object_limit [] e rest limit h = absurd (no_limit [] e rest limit h)
  object_limit (b ∷ bs) e rest limit h =
      by_test (b == 125) _ _ _ h (λ t f. absurd (got_bad no_members bs e rest f))
      (λ t f. limit_on (MembersHold None e) (ObjectHolds e) e [] (b ∷ bs) (b ∷ bs) rest refl
      (λ front c behind byte splits k. record {
        stays = λ more.
            let first = first_stays front c behind b bs more splits in
            let size = ap length first.1 in
            ap (object_at p) first.1 ∙ object_first b first.0 t ∙ ap (members_at p None (suc (suc (length first.0)))) (sym first.1)
            ∙ k.stays (suc (suc (length first.0))) more (omega arith);
        can = (k.can.0, k.can.1, k.can.2.0, k.can.3);
        beyond = (k.beyond.0, k.beyond.1, k.beyond.2.0, k.beyond.3);
      })
      (members_limit None (suc (suc (length bs))) (b ∷ bs) e rest limit f))

  -- ---- behind a bracket

  abbrev lists : List ℕ → Outcome Json
  lists bs = as_read array (list_at p bs)

  abbrev objects : List ℕ → Outcome Json
  objects bs = as_read object (object_at p bs)

  inside_list : LimitBehind (suc levels) lists objects 91 lists
  inside_list bs e rest limit h =
      limit_on (ListHolds e) (ValueHolds (value_with true lists objects) (suc levels) e) e (91 ∷ []) bs (91 ∷ bs) rest refl
      (λ front c behind byte splits k. record {
        stays = λ more. ap (as_read array) (k.stays more);
        can = (
          array k.can.0,
          k.can.1,
          ((tt, k.can.2.0), (λ l. (tt, k.can.2.1 l)), (let d = k.can.2.2 in omega arith)),
          ap (λ (xs : List ℕ). 91 ∷ xs) (k.can.3 ∙ sym (items_text_is k.can.0)),
        );
        beyond = (array k.beyond.0, k.beyond.1, (tt, k.beyond.2), ap (λ (xs : List ℕ). 91 ∷ xs) (k.beyond.3 ∙ sym (items_text_is k.beyond.0)));
      })
      (list_limit bs e rest limit (as_read_bad array (list_at p bs) e rest h))

  inside_object : LimitBehind (suc levels) lists objects 123 objects
  inside_object bs e rest limit h =
      limit_on (ObjectHolds e) (ValueHolds (value_with true lists objects) (suc levels) e) e (123 ∷ []) bs (123 ∷ bs) rest refl
      (λ front c behind byte splits k. record {
        stays = λ more. ap (as_read object) (k.stays more);
        can = (
            let g = k.can.2 in (
              object k.can.0,
              k.can.1,
              (((g.3, g.4), g.0), (λ l. (tt, g.1 l)), (let d = g.2 in omega arith)),
              ap (λ (xs : List ℕ). 123 ∷ xs) (k.can.3 ∙ sym (members_text_is k.can.0)),
            )
            );
        beyond = (
            let g = k.beyond.2 in
            (object k.beyond.0, k.beyond.1, ((g.1, g.2), g.0), ap (λ (xs : List ℕ). 123 ∷ xs) (k.beyond.3 ∙ sym (members_text_is k.beyond.0)))
            );
      })
      (object_limit bs e rest limit (as_read_bad object (object_at p bs) e rest h))

-- ---- all values

-- no bracket may open here
no_level : (c : ℕ) (v : Json) (more : List ℕ) (a o : List ℕ → Outcome Json) → IsProper v → IsOpening c → c ∷ more ≡ spelling v → ((rest : List ℕ) → value_with true a o (c ∷ rest) ≡ bad TooDeep (c ∷ rest))
    → (bs : List ℕ) (e : ReadFault) (rest : List ℕ) → ◌≡◌ {A = Outcome Json} (bad TooDeep (c ∷ bs)) (bad e rest) → Limit (ValueHolds (value_with true a o) zero e) e (c ∷ bs) rest
no_level c v more a o proper opening spelled stays bs e rest h =
    let p = bad_parts TooDeep e (c ∷ bs) rest h in
    subst (λ (x : ReadFault). Limit (ValueHolds (value_with true a o) zero x) x (c ∷ bs) rest) p.0 (record {
      front = [];
      c = c;
      behind = bs;
      ends = sym p.1;
      splits = refl;
      byte = opening;
      holds = record { stays = stays; can = (null, spelling null, (tt, (λ l. tt), omega arith), refl); beyond = (v, more, proper, spelled) };
    })

pub value_limit : (levels : ℕ) → LimitReader levels (value_at true levels)
unfolding value_at
value_limit zero bs e rest limit h =
    value_with_limit zero _ _
    (λ bs e rest limit f. no_level 91 (array no_items) (93 ∷ []) _ _ (tt, tt) (inl refl) refl (λ rest. refl) bs e rest f)
    (λ bs e rest limit f. no_level 123 (object no_members) (125 ∷ []) _ _ ((tt, tt), tt) (inr refl) refl (λ rest. refl) bs e rest f)
    bs e rest limit h
value_limit (suc levels) bs e rest limit h =
    let p = value_at true levels in
    let sound = value_sound true levels in
    let again = λ (v : Json) (rest : List ℕ). value_again true v levels rest in
    let limits = value_limit levels in
    value_with_limit (suc levels) _ _ (inside_list levels p sound again limits) (inside_object levels p sound again limits) bs e rest limit h
