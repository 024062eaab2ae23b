-- Chains on their way: a step, a run of steps, and their list with some of them further on.
use Rattle.std.proofs.Common.{◌≡◌, ℕ, zero, suc, ◌+◌, ◌*◌, ◌<◌, ◌≤◌, List, [], length, map, slice_set, refl, sym, subst, ap, ◌∙◌, arith}
use Rattle.std.proofs.lemmas.List.{get_or-set_other, length-set, map-set, set-get_or, get_or-map}
use Rattle.std.proofs.lemmas.List.Sums.{sum_by-set}
use Rattle.lms.specs.declared.lanes.Chain.{Chain}
use Rattle.lms.specs.Chains.{chain, chain_step}
use Rattle.lms.specs.steps.Lanes.{IsAhead, all_left, chain_at, end_of, ends, left}
use Rattle.lms.proofs.Runs.{one_step}

pub below_four : (P : ℕ → Type 0) → P 0 → P 1 → P 2 → P 3 → (i : ℕ) → i < 4 → P i
below_four P p0 p1 p2 p3 zero h = p0
below_four P p0 p1 p2 p3 (suc zero) h = p1
below_four P p0 p1 p2 p3 (suc (suc zero)) h = p2
below_four P p0 p1 p2 p3 (suc (suc (suc zero))) h = p3
below_four P p0 p1 p2 p3 (suc (suc (suc (suc n)))) h = absurd (omega arith)

module _ (identifier : List ℕ) (q : ℕ) where
  pub one_ahead : (before after : Chain) (x : List ℕ) → before.from < before.to → x ≡ chain_step identifier q before.index before.value before.from
      → after ≡ record before { from = before.from + 1; value = x } → IsAhead identifier q 1 before after
  one_ahead before after x h e is =
      let f = chain_step identifier q before.index in
      let go : end_of identifier q (record before { from = before.from + 1; value = x }) ≡ end_of identifier q before
      = ap (chain identifier q before.index (before.from + 1) before.to) e ∙ sym (one_step f before.value before.from before.to h) in
      record {
        index = ap (λ (c : Chain). c.index) is;
        to = ap (λ (c : Chain). c.to) is;
        from = ap (λ (c : Chain). c.from) is;
        end = ap (end_of identifier q) is ∙ go;
      }

  pub none_ahead : (c : Chain) → IsAhead identifier q 0 c c
  none_ahead c = record { index = refl; to = refl; from = omega arith; end = refl }

  pub more_ahead : (n : ℕ) (x y z : Chain) → IsAhead identifier q n x y → IsAhead identifier q 1 y z → IsAhead identifier q (n + 1) x z
  more_ahead n x y z h k = record {
    index = k.index ∙ h.index;
    to = k.to ∙ h.to;
    from = omega (arith, h.from, k.from);
    end = k.end ∙ h.end;
  }

  -- the list with one chain n steps on
  put_ends : (cs : List Chain) (i n : ℕ) (x : Chain) → i < length cs → IsAhead identifier q n (chain_at cs i) x → ends identifier q (slice_set cs i x) ≡ ends identifier q cs
  put_ends cs i n x h a =
      let f = end_of identifier q in
      let here = get_or-map f cs i record { index = 0; from = 0; to = 0; value = [] } [] h in
      map-set f cs i x ∙ ap (slice_set (map f cs) i) (a.end ∙ sym here) ∙ set-get_or (map f cs) i []

  put_left : (cs : List Chain) (i n : ℕ) (x : Chain) → i < length cs → n ≤ left (chain_at cs i) → IsAhead identifier q n (chain_at cs i) x
      → all_left (slice_set cs i x) + n ≡ all_left cs
  put_left cs i n x h few a =
      let set = sum_by-set left cs i x record { index = 0; from = 0; to = 0; value = [] } h in
      omega (arith, set, a.to, a.from)

  -- n steps on, and no further than it may
  abbrev pub Goes : ℕ → Chain → Chain → Type 0
  Goes n before after = IsAhead identifier q n before after × (n ≤ left before)

  abbrev Put : ℕ → ℕ → List Chain → List Chain → Type 0
  Put n before_len before after = (ends identifier q after ≡ ends identifier q before) × (all_left after + n ≡ all_left before) × (length after ≡ before_len)

  put_one : (cs : List Chain) (i n : ℕ) (x : Chain) → i < length cs → Goes n (chain_at cs i) x → Put n (length cs) cs (slice_set cs i x)
  put_one cs i n x h g = (put_ends cs i n x h g.0, put_left cs i n x h g.1 g.0, length-set cs i x)

  put_other : (cs : List Chain) (i k n : ℕ) (x y : Chain) → i < k → Goes n (chain_at cs k) y → Goes n (chain_at (slice_set cs i x) k) y
  put_other cs i k n x y lt g =
      let P : Chain → Type 0 = λ c. Goes n c y in
      subst P (sym (get_or-set_other cs i k x record { index = 0; from = 0; to = 0; value = [] } (omega arith))) g

  pub put_four : (cs : List Chain) (a b c d n : ℕ) (w x y z : Chain) → a < b → b < c → c < d → d < length cs
      → Goes n (chain_at cs a) w → Goes n (chain_at cs b) x → Goes n (chain_at cs c) y → Goes n (chain_at cs d) z
      → (ends identifier q (slice_set (slice_set (slice_set (slice_set cs a w) b x) c y) d z) ≡ ends identifier q cs)
      × (all_left (slice_set (slice_set (slice_set (slice_set cs a w) b x) c y) d z) + 4 * n ≡ all_left cs)
  put_four cs a b c d n w x y z ab bc cd dn ga gb gc gd =
      let cs1 = slice_set cs a w in
      let cs2 = slice_set cs1 b x in
      let cs3 = slice_set cs2 c y in
      let cs4 = slice_set cs3 d z in
      let p1 = put_one cs a n w (omega arith) ga in
      let p2 = put_one cs1 b n x (omega (arith, p1.2)) (put_other cs a b n w x ab gb) in
      let p3 = put_one cs2 c n y (omega (arith, p1.2, p2.2)) (put_other cs1 b c n x y bc (put_other cs a c n w y (omega arith) gc)) in
      let p4 = put_one cs3 d n z (omega (arith, p1.2, p2.2, p3.2)) (put_other cs2 c d n y z cd (put_other cs1 b d n x z (omega arith) (put_other cs a d n w z (omega arith) gd))) in
      (p4.0 ∙ p3.0 ∙ p2.0 ∙ p1.0, omega (arith, p1.1, p2.1, p3.1, p4.1))

-- four writes leave what stands before them
pub put_before : (cs : List Chain) (a b c d k : ℕ) (w x y z : Chain) → a < b → b < c → c < d → k < a
    → chain_at (slice_set (slice_set (slice_set (slice_set cs a w) b x) c y) d z) k ≡ chain_at cs k
put_before cs a b c d k w x y z ab bc cd h =
    let none : Chain = record { index = 0; from = 0; to = 0; value = [] } in
    let cs1 = slice_set cs a w in
    let cs2 = slice_set cs1 b x in
    let cs3 = slice_set cs2 c y in
    get_or-set_other cs3 d k z none (omega arith) ∙ get_or-set_other cs2 c k y none (omega arith)
    ∙ get_or-set_other cs1 b k x none (omega arith) ∙ get_or-set_other cs a k w none (omega arith)
