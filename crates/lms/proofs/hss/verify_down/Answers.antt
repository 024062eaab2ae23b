use Rattle.std.proofs.Common.{◌≡◌, ℕ, suc, ◌+◌, ◌-◌, true, false, sym, ◌∙◌, arith}
use Rattle.lms.specs.Hss.{VerifiesDown}
use Rattle.lms.proofs.HssReadings.{all_taken, at_top, left_as, next_level, next_taken, no_level, none_taken, not_signed, stuck, taken_left, ticked, took, uncut_taken, unsigned_taken}
use Rattle.lms.proofs.hss.verify_down.Goals as goal
use Rattle.lms.proofs.hss.verify_down.Goals.{In_default, Then-not-verify_counted}

pub levels-init : goal.levels-init
levels-init c =
    let n = c.args.signed_keys in
    let message = c.args.message.now in
    let top = c.args.top.now in
    let rest = c.args.rest.now in
    record {
      far = left_as message n top rest n (n - 0) top rest c.args.steps.now (omega arith) (at_top message n top rest c.args.steps.now c.requires.fresh);
      taken = taken_left message n top rest n (n - 0) top rest c.args.steps.now (omega arith) (none_taken message n top rest c.args.steps.now c.requires.fresh);
      most = omega arith;
    }

pub levels-preserved : goal.levels-preserved
levels-preserved c =
    let n = c.args.signed_keys in
    let m : ℕ = n - (c.levels._n + 1) in
    let message = c.args.message.now in
    let top = c.args.top.now in
    let whole = c.args.rest.now in
    let signer = c.levels.signer.now in
    let rest = c.levels.rest.now in
    let steps = c.verify_counted.new.steps in
    let signed = c.in-Some in
    let far = left_as message n top whole (n - c.levels._n) (suc m) signer rest c.levels.steps (omega arith) c.levels.invariant.far in
    record {
      far = next_level message n top whole m signer rest c.levels.steps signed.signature.now signed.key.now signed.later.now steps far signed.ensures.only.0 signed.ensures.only.1
          (c.verify_counted.ensures.valid.0 c.if-not-verify_counted.false)
          (ticked signer signed.key.now signed.signature.now c.levels.steps steps c.verify_counted.ensures.counted);
      taken = next_taken message n top whole m signer rest c.levels.steps signed.signature.now signed.key.now signed.later.now steps
          (taken_left message n top whole (n - c.levels._n) (suc m) signer rest c.levels.steps (omega arith) c.levels.invariant.taken) signed.ensures.cut
          (c.verify_counted.ensures.valid.0 c.if-not-verify_counted.false) c.verify_counted.ensures.grows
          (took signer signed.key.now signed.signature.now c.levels.steps steps c.verify_counted.ensures.counted c.verify_counted.ensures.refused);
      most = omega (arith, c.verify_counted.ensures.most, c.levels.invariant.most);
    }

-- what is left has no next level
none : (c : In_default) → VerifiesDown c.args.signed_keys c.args.top.now c.args.message.now c.args.rest.now → ⊥
none c =
    let n = c.args.signed_keys in
    let m : ℕ = n - (c.levels._n + 1) in
    let signer = c.levels.signer.now in
    let rest = c.levels.rest.now in
    let far = left_as c.args.message.now n c.args.top.now c.args.rest.now (n - c.levels._n) (suc m) signer rest c.levels.steps (omega arith) c.levels.invariant.far in
    stuck c.args.message.now n c.args.top.now c.args.rest.now (suc m) signer rest c.levels.steps far (no_level m signer c.args.message.now rest c.in_default.ensures.only)

pub returns-in_default-clause-valid : goal.returns-in_default-clause-valid
returns-in_default-clause-valid c = (λ h. absurd (let e : false ≡ true = h in cc), λ v. absurd (none c v))

pub returns-in_default-clause-counted : goal.returns-in_default-clause-counted
returns-in_default-clause-counted c v = absurd (none c v)

-- the next level does not verify
unsigned : (c : Then-not-verify_counted) → VerifiesDown c.args.signed_keys c.args.top.now c.args.message.now c.args.rest.now → ⊥
unsigned c =
    let n = c.args.signed_keys in
    let m : ℕ = n - (c.levels._n + 1) in
    let signer = c.levels.signer.now in
    let rest = c.levels.rest.now in
    let signed = c.in-Some in
    let far = left_as c.args.message.now n c.args.top.now c.args.rest.now (n - c.levels._n) (suc m) signer rest c.levels.steps (omega arith) c.levels.invariant.far in
    stuck c.args.message.now n c.args.top.now c.args.rest.now (suc m) signer rest c.levels.steps far
    (not_signed m signer c.args.message.now rest signed.signature.now signed.key.now signed.later.now signed.ensures.only.1
    (λ v. let e : false ≡ true = sym c.if-not-verify_counted.true ∙ c.verify_counted.ensures.valid.1 v in cc))

pub returns-then-not-verify_counted-clause-valid : goal.returns-then-not-verify_counted-clause-valid
returns-then-not-verify_counted-clause-valid c = (λ h. absurd (let e : false ≡ true = h in cc), λ v. absurd (unsigned c v))

pub returns-then-not-verify_counted-clause-counted : goal.returns-then-not-verify_counted-clause-counted
returns-then-not-verify_counted-clause-counted c v = absurd (unsigned c v)

pub returns-in_default-clause-taken : goal.returns-in_default-clause-taken
returns-in_default-clause-taken c =
    let n = c.args.signed_keys in
    let m : ℕ = n - (c.levels._n + 1) in
    let signer = c.levels.signer.now in
    let rest = c.levels.rest.now in
    uncut_taken c.args.message.now n c.args.top.now c.args.rest.now m signer rest c.levels.steps
    (taken_left c.args.message.now n c.args.top.now c.args.rest.now (n - c.levels._n) (suc m) signer rest c.levels.steps (omega arith) c.levels.invariant.taken)
    c.in_default.ensures.cut

pub returns-then-not-verify_counted-clause-taken : goal.returns-then-not-verify_counted-clause-taken
returns-then-not-verify_counted-clause-taken c =
    let n = c.args.signed_keys in
    let m : ℕ = n - (c.levels._n + 1) in
    let signer = c.levels.signer.now in
    let rest = c.levels.rest.now in
    let signed = c.in-Some in
    let steps = c.verify_counted.new.steps in
    unsigned_taken c.args.message.now n c.args.top.now c.args.rest.now m signer rest c.levels.steps signed.signature.now signed.key.now signed.later.now steps
    (taken_left c.args.message.now n c.args.top.now c.args.rest.now (n - c.levels._n) (suc m) signer rest c.levels.steps (omega arith) c.levels.invariant.taken)
    signed.ensures.cut (λ v. let e : false ≡ true = sym c.if-not-verify_counted.true ∙ c.verify_counted.ensures.valid.1 v in cc)
    c.verify_counted.ensures.grows
    (took signer signed.key.now signed.signature.now c.levels.steps steps c.verify_counted.ensures.counted c.verify_counted.ensures.refused)

pub returns-clause-taken : goal.returns-clause-taken
returns-clause-taken c =
    let n = c.args.signed_keys in
    let signer = c.levels.signer.now in
    let rest = c.levels.rest.now in
    let steps = c.verify_counted-2.new.steps in
    all_taken c.args.message.now n c.args.top.now c.args.rest.now signer rest c.levels.steps steps
    (taken_left c.args.message.now n c.args.top.now c.args.rest.now (n - c.levels._n) 0 signer rest c.levels.steps (omega arith) c.levels.invariant.taken)
    c.verify_counted-2.ensures.grows
    (took signer c.args.message.now rest c.levels.steps steps c.verify_counted-2.ensures.counted c.verify_counted-2.ensures.refused)

pub returns-clause-valid : goal.returns-clause-valid
returns-clause-valid c =
    let n = c.args.signed_keys in
    let far = left_as c.args.message.now n c.args.top.now c.args.rest.now (n - c.levels._n) 0 c.levels.signer.now c.levels.rest.now c.levels.steps (omega arith) c.levels.invariant.far in (
      λ h. far.holds (c.verify_counted-2.ensures.valid.0 h),
      λ v. c.verify_counted-2.ensures.valid.1 (far.counts v).0,
    )

pub returns-clause-counted : goal.returns-clause-counted
returns-clause-counted c v =
    let n = c.args.signed_keys in
    let far = left_as c.args.message.now n c.args.top.now c.args.rest.now (n - c.levels._n) 0 c.levels.signer.now c.levels.rest.now c.levels.steps (omega arith) c.levels.invariant.far in
    let rest = far.counts v in
    ticked c.levels.signer.now c.args.message.now c.levels.rest.now c.levels.steps c.verify_counted-2.new.steps c.verify_counted-2.ensures.counted rest.0 ∙ rest.1
