use Rattle.std.proofs.Common.{◌≡◌, ℕ, ◌+◌, true, false, inl, inr, refl, ap, ◌∙◌, arith}
use Rattle.lms.proofs.HssReadings.{hss_down}
use Rattle.lms.proofs.hss.verify_hss_counted.Goals as goal

pub returns-in_default-clause-valid : goal.returns-in_default-clause-valid
returns-in_default-clause-valid c = (
  λ h. absurd (let e : false ≡ true = h in cc),
  λ v. absurd (c.in_default.ensures v.signed_keys v.top v.rest v.levels),
)

pub returns-in_default-clause-counted : goal.returns-in_default-clause-counted
returns-in_default-clause-counted c v = absurd (c.in_default.ensures v.signed_keys v.top v.rest v.levels)

pub returns-clause-valid : goal.returns-clause-valid
returns-clause-valid c =
    let some = c.in-Some in (
      λ h. record {
        signed_keys = some.signed_keys;
        top = some.top.now;
        rest = some.rest.now;
        levels = c.in-Some.ensures;
        down = c.verify_down-valid.ensures.valid.0 h;
      },
      λ v. c.verify_down-valid.ensures.valid.1
          (hss_down c.args.public.now c.args.message.now c.args.signature.now some.signed_keys some.top.now some.rest.now c.in-Some.ensures v).0,
    )

pub returns-clause-counted : goal.returns-clause-counted
returns-clause-counted c v =
    let some = c.in-Some in
    let down = hss_down c.args.public.now c.args.message.now c.args.signature.now some.signed_keys some.top.now some.rest.now c.in-Some.ensures v in
    c.add.ensures ∙ ap (λ (n : ℕ). c.args.steps.now + n) (c.verify_down-valid.ensures.counted down.0 ∙ down.1)

pub returns-in_default-clause-taken : goal.returns-in_default-clause-taken
returns-in_default-clause-taken c = (0, omega arith, inl (c.in_default.ensures, refl))

pub returns-clause-taken : goal.returns-clause-taken
returns-clause-taken c =
    let some = c.in-Some in
    (c.verify_down-valid.new.steps, c.add.ensures, inr (some.signed_keys, some.top.now, some.rest.now, some.ensures, c.verify_down-valid.ensures.taken))
