-- Where a pattern differs from a text, only the run of the last `*` has to become longer.
use Rattle.std.proofs.Common.{◌≡◌, ◌≢◌, ℕ, ◌+◌, ◌≤◌, List, [], ◌∷◌, ◌++◌, length, Bool, true, false, cond, ◌&&◌, ◌||◌, ◌==◌, ⊎_elim, refl, sym, ◌∙◌, ap, subst, true≢false, arith, nat_eq, append_assoc, length-append}
use Rattle.std.specs.List.{AllZip, list_all}
use Rattle.std.proofs.Math.Bool.{or-false}
use Rattle.std.proofs.lemmas.Bool.{or_cases, and_parts, or_left, or_right, eqb-true, ne_eqb}
use Rattle.std.proofs.lemmas.List.Folds.{list_all-append}
use Rattle.path_patterns.specs.Tests.{matches, after_run, after_byte, passes}
use Rattle.path_patterns.specs.steps.Walking.{more}

module _ (free : ℕ → Bool) where
  -- how many bytes of a text no wildcard stands for
  abbrev pub fixed : List ℕ → ℕ
  fixed [] = 0
  fixed (b ∷ bs) = cond (free b) 0 1 + fixed bs

  -- how many of them a part of a pattern without `*` stands for
  abbrev named : List ℕ → ℕ
  named [] = 0
  named (c ∷ cs) = cond (c == 63) 0 (cond (free c) 0 1) + named cs

  abbrev pub Stands : ℕ → ℕ → Type 0
  Stands c b = (c ≢ 42) × (passes free c b ≡ true)

  fixed-append : (xs ys : List ℕ) → fixed (xs ++ ys) ≡ fixed xs + fixed ys
  fixed-append [] ys = omega arith
  fixed-append (x ∷ xs) ys = omega (arith, fixed-append xs ys)

  none_fixed : (xs : List ℕ) → list_all free xs ≡ true → fixed xs ≡ 0
  none_fixed [] h = refl
  none_fixed (x ∷ xs) h = let p = and_parts (free x) (list_all free xs) h in rw (p.0, none_fixed xs p.1) refl

  all_free : (xs : List ℕ) → fixed xs ≡ 0 → list_all free xs ≡ true
  all_free [] h = refl
  all_free (x ∷ xs) h = by (free x) h (all_free xs)
    where
      by : (f : Bool) → cond f 0 1 + fixed xs ≡ 0 → (fixed xs ≡ 0 → list_all free xs ≡ true) → (f && list_all free xs) ≡ true
      by true e more = more (omega (arith, e))
      by false e more = absurd (omega (arith, e))

  -- a byte that passes is fixed just where the byte of the pattern says so
  abbrev weight : Bool → ℕ
  weight f = cond f 0 1

  byte_named : (c b : ℕ) → passes free c b ≡ true → weight (free b) ≡ cond (c == 63) 0 (weight (free c))
  byte_named c b h = by (c == 63) h
    where
      by : (q : Bool) → cond q free (nat_eq c) b ≡ true → weight (free b) ≡ cond q 0 (weight (free c))
      by true f = ap weight f
      by false f = sym (ap (λ (x : ℕ). weight (free x)) (eqb-true c b f))

  all_named : (u w : List ℕ) → AllZip Stands u w → fixed w ≡ named u
  all_named [] [] h = refl
  all_named [] (b ∷ w) h = absurd h
  all_named (c ∷ u) [] h = absurd h
  all_named (c ∷ u) (b ∷ w) h = omega (arith, byte_named c b h.0.1, all_named u w h.1)

  same_length : (u w : List ℕ) → AllZip Stands u w → length u ≡ length w
  same_length [] [] h = refl
  same_length [] (b ∷ w) h = absurd h
  same_length (c ∷ u) [] h = absurd h
  same_length (c ∷ u) (b ∷ w) h = omega (arith, same_length u w h.1)

  both_true : (a b : Bool) → a ≡ true → b ≡ true → (a && b) ≡ true
  both_true a b p q = rw (p, q) refl

  -- a run, and what the rest takes behind it
  record IsRun (rest : List ℕ → Bool) (t : List ℕ) : Type 0 where
    pub run : List ℕ
    pub behind : List ℕ
    pub cut : t ≡ run ++ behind
    pub is_free : list_all free run ≡ true
    pub takes : rest behind ≡ true

  run_of : (rest : List ℕ → Bool) (t : List ℕ) → after_run free rest t ≡ true → IsRun rest t
  run_of rest [] h = record { run = []; behind = []; cut = refl; is_free = refl; takes = h }
  run_of rest (b ∷ bs) h = ⊎_elim
      (λ l. record { run = []; behind = b ∷ bs; cut = refl; is_free = refl; takes = l })
      (λ r.
      let p = and_parts (free b) (after_run free rest bs) r in
      let o = run_of rest bs p.1 in
      record { run = b ∷ o.run; behind = o.behind; cut = ap (λ (x : List ℕ). b ∷ x) o.cut; is_free = both_true (free b) (list_all free o.run) p.0 o.is_free; takes = o.takes })
      (or_cases (rest (b ∷ bs)) (free b && after_run free rest bs) h)

  at_once : (rest : List ℕ → Bool) (t : List ℕ) → rest t ≡ true → after_run free rest t ≡ true
  at_once rest [] h = h
  at_once rest (b ∷ bs) h = or_left (rest (b ∷ bs)) (free b && after_run free rest bs) h

  of_run : (rest : List ℕ → Bool) (x z : List ℕ) → list_all free x ≡ true → rest z ≡ true → after_run free rest (x ++ z) ≡ true
  of_run rest [] z f h = at_once rest z h
  of_run rest (b ∷ x) z f h =
      let p = and_parts (free b) (list_all free x) f in
      or_right (rest (b ∷ (x ++ z))) (free b && after_run free rest (x ++ z)) (rw (p.0, of_run rest x z p.1 h) refl)

  -- a part of a pattern without `*` takes as many bytes, and what follows takes the rest
  record IsTaken (u q y : List ℕ) : Type 0 where
    pub part : List ℕ
    pub behind : List ℕ
    pub cut : y ≡ part ++ behind
    pub stands : AllZip Stands u part
    pub takes : matches free q behind ≡ true

  taken : (u q w y : List ℕ) → AllZip Stands u w → matches free (u ++ q) y ≡ true → IsTaken u q y
  taken [] q [] y s h = record { part = []; behind = y; cut = refl; stands = tt; takes = h }
  taken [] q (b ∷ w) y s h = absurd s
  taken (c ∷ u) q [] y s h = absurd s
  taken (c ∷ u) q (b ∷ w) y s h = by y (λ z k. taken u q w z s.1 k) (subst (λ (x : Bool). cond x (after_run free (matches free (u ++ q))) (after_byte (passes free c) (matches free (u ++ q))) y ≡ true) (ne_eqb c 42 s.0.0) h)
    where
      by : (y : List ℕ) → ((z : List ℕ) → matches free (u ++ q) z ≡ true → IsTaken u q z)
          → after_byte (passes free c) (matches free (u ++ q)) y ≡ true → IsTaken (c ∷ u) q y
      by [] on k = absurd (true≢false (sym k))
      by (d ∷ y) on k =
          let p = and_parts (passes free c d) (matches free (u ++ q) y) k in
          let o = on y p.1 in
          record { part = d ∷ o.part; behind = o.behind; cut = ap (λ (x : List ℕ). d ∷ x) o.cut; stands = ((s.0.0, p.0), o.stands); takes = o.takes }

  -- of two beginnings of a text, the longer goes on from the shorter
  goes_on : (w t x z : List ℕ) → w ++ t ≡ x ++ z → length w ≤ length x → (m : List ℕ) × (x ≡ w ++ m) × (t ≡ m ++ z)
  goes_on [] t x z e h = (x, refl, e)
  goes_on (b ∷ w) t [] z e h = absurd (omega (arith, h))
  goes_on (b ∷ w) t (d ∷ x) z e h =
      let same : b ≡ d = cc in
      let tail : w ++ t ≡ x ++ z = cc in
      let o = goes_on w t x z tail (omega (arith, h)) in
      let longer : d ∷ x ≡ b ∷ (w ++ o.0) = ap (λ (k : List ℕ). d ∷ k) o.1 ∙ ap (λ (k : ℕ). k ∷ (w ++ o.0)) (sym same) in
      (o.0, longer, o.2)

  -- Behind a part without `*` stands another `*`. Whatever a longer run before the part would lead to, a run behind it
  -- leads to as well: the bytes between are as free, since the part stands for the fixed bytes alone.
  last_suffices : (u w rest t x y : List ℕ) → AllZip Stands u w → w ++ t ≡ x ++ y → list_all free x ≡ true
      → matches free (u ++ 42 ∷ rest) y ≡ true → after_run free (matches free rest) t ≡ true
  last_suffices u w rest t x y s e f h =
      let o = taken u (42 ∷ rest) w y s h in
      let r = run_of (matches free rest) o.behind o.takes in
      let whole : w ++ t ≡ (x ++ o.part) ++ o.behind = e ∙ ap (λ (k : List ℕ). x ++ k) o.cut ∙ sym (append_assoc x o.part o.behind) in
      let longer : length w ≤ length (x ++ o.part) = simp length-append (omega (arith, same_length u w s, same_length u o.part o.stands)) in
      let g = goes_on w t (x ++ o.part) o.behind whole longer in
      let counted : fixed x + fixed o.part ≡ fixed w + fixed g.0 = sym (fixed-append x o.part) ∙ ap fixed g.1 ∙ fixed-append w g.0 in
      let between : list_all free g.0 ≡ true = all_free g.0 (omega (arith, counted, none_fixed x f, all_named u w s, all_named u o.part o.stands)) in
      let runs : list_all free (g.0 ++ r.run) ≡ true = rw (list_all-append, between, r.is_free) refl in
      let is : t ≡ (g.0 ++ r.run) ++ r.behind = g.2 ∙ ap (λ (k : List ℕ). g.0 ++ k) r.cut ∙ sym (append_assoc g.0 r.run r.behind) in
      rw is (of_run (matches free rest) (g.0 ++ r.run) r.behind runs r.takes)

  -- ---- one step
  pub no_byte : (p t : List ℕ) (c : ℕ) (cs : List ℕ) → p ≡ c ∷ cs → length t ≡ 0 → c ≢ 42 → matches free p t ≡ false
  no_byte p [] c cs e none no_star = rw (e, ne_eqb c 42 no_star) refl
  no_byte p (b ∷ bs) c cs e none no_star = absurd (omega (arith, none))

  pub other_byte : (p t : List ℕ) (c b : ℕ) (cs bs : List ℕ) → p ≡ c ∷ cs → t ≡ b ∷ bs → c ≢ 42 → passes free c b ≡ false → matches free p t ≡ false
  other_byte p t c b cs bs e f no_star differs = rw (e, f, ne_eqb c 42 no_star, differs) refl

  pub same_byte : (p t : List ℕ) (c b : ℕ) (cs bs : List ℕ) → p ≡ c ∷ cs → t ≡ b ∷ bs → c ≢ 42 → passes free c b ≡ true → matches free p t ≡ matches free cs bs
  same_byte p t c b cs bs e f no_star same = rw (e, f, ne_eqb c 42 no_star, same) refl

  pub at_star : (cs t : List ℕ) → matches free (42 ∷ cs) t ≡ (matches free cs t || more free cs t)
  at_star cs [] = sym (or-false (matches free cs []))
  at_star cs (b ∷ bs) = refl

  -- where the last run began: behind the pattern's last `*`, or at the front
  pub record IsBehind (front text pattern rest : List ℕ) : Type 0 where
    pub part : List ℕ
    pub taken : List ℕ
    pub pattern_is : front ≡ part ++ pattern
    pub text_is : text ≡ taken ++ rest
    pub stands : AllZip Stands part taken

  pub at_front : (p t : List ℕ) → IsBehind p t p t
  at_front p t = record { part = []; taken = []; pattern_is = refl; text_is = refl; stands = tt }

  stands_more : (u w : List ℕ) (c b : ℕ) → AllZip Stands u w → Stands c b → AllZip Stands (u ++ c ∷ []) (w ++ b ∷ [])
  stands_more [] [] c b h s = (s, tt)
  stands_more [] (d ∷ w) c b h s = absurd h
  stands_more (d ∷ u) [] c b h s = absurd h
  stands_more (d ∷ u) (e ∷ w) c b h s = (h.0, stands_more u w c b h.1 s)

  pub one_more : (front text p t : List ℕ) (c b : ℕ) (cs bs : List ℕ) → IsBehind front text p t → p ≡ c ∷ cs → t ≡ b ∷ bs → c ≢ 42 → passes free c b ≡ true
      → IsBehind front text cs bs
  one_more front text p t c b cs bs h e f no_star same = record {
    part = h.part ++ c ∷ [];
    taken = h.taken ++ b ∷ [];
    pattern_is = h.pattern_is ∙ ap (λ (x : List ℕ). h.part ++ x) e ∙ sym (append_assoc h.part (c ∷ []) cs);
    text_is = h.text_is ∙ ap (λ (x : List ℕ). h.taken ++ x) f ∙ sym (append_assoc h.taken (b ∷ []) bs);
    stands = stands_more h.part h.taken c b h.stands (no_star, same);
  }

  -- behind a `*` the run before it is of no use any more
  more_suffices : (front text cs t : List ℕ) → IsBehind front text (42 ∷ cs) t → more free front text ≡ true → matches free (42 ∷ cs) t ≡ true
  more_suffices front [] cs t h m = absurd (true≢false (sym m))
  more_suffices front (b ∷ bs) cs t h m =
      let p = and_parts (free b) (after_run free (matches free front) bs) m in
      let r = run_of (matches free front) bs p.1 in
      last_suffices h.part h.taken cs t (b ∷ r.run) r.behind h.stands
      (sym h.text_is ∙ ap (λ (x : List ℕ). b ∷ x) r.cut)
      (both_true (free b) (list_all free r.run) p.0 r.is_free)
      (subst (λ (x : List ℕ). matches free x r.behind ≡ true) h.pattern_is r.takes)

  covered : (a b : Bool) → (b ≡ true → a ≡ true) → (a || b) ≡ a
  covered true b h = refl
  covered false true h = sym (h refl)
  covered false false h = refl

  pub run_is_last : (front text p cs t : List ℕ) → IsBehind front text p t → p ≡ 42 ∷ cs
      → (matches free p t || more free front text) ≡ (matches free cs t || more free cs t)
  run_is_last front text p cs t h e =
      let behind : IsBehind front text (42 ∷ cs) t = subst (λ (x : List ℕ). IsBehind front text x t) e h in
      ap (λ (x : List ℕ). matches free x t || more free front text) e
      ∙ covered (matches free (42 ∷ cs) t) (more free front text) (more_suffices front text cs t behind)
      ∙ at_star cs t

  pub run_is_longer : (front text bs : List ℕ) (b : ℕ) → text ≡ b ∷ bs → free b ≡ true → more free front text ≡ (matches free front bs || more free front bs)
  run_is_longer front text bs b e f = rw (e, f) (at_star front bs)
