use Rattle.std.proofs.Common.{◌≡◌, ◌-◌, ℕ, Bool, cond, sym, ap, subst, arith}
use Rattle.keys_roles.specs.Verdicts.{TakesPair}
use Rattle.keys_roles.specs.Views.{entry_view, key_view, verdict_view, verdict_views}
use Rattle.keys_roles.proofs.Knowing.{found_known, found_tells, none_known}
use Rattle.keys_roles.proofs.verdicts.verdict.Goals as goal

pub returns-in-Some-clause-told : goal.returns-in-Some-clause-told
returns-in-Some-clause-told c =
    found_tells c.args.signed.now c.args.place (key_view c.args.key.now) (entry_view c.args.entry.now) (verdict_views c.args.known.now)
    (verdict_view c.in-Some.known.now) c.requires.sound (sym c.in-Some.ensures)

pub returns-in-None-clause-most : goal.returns-in-None-clause-most
returns-in-None-clause-most c =
    let none = none_known (verdict_views c.args.known.now) (c.args.place, key_view c.args.key.now) (sym c.in-None.ensures) in
    let one = ap {B = ℕ} (λ b. cond b 0 1) none in
    let most = c.digits_verify.ensures.most in
    omega (arith, one, most)

pub returns-in-Some-clause-counted : goal.returns-in-Some-clause-counted
returns-in-Some-clause-counted c =
    let known = found_known (verdict_views c.args.known.now) (c.args.place, key_view c.args.key.now) (verdict_view c.in-Some.known.now) (sym c.in-Some.ensures) in
    let none : c.args.steps.now - c.args.steps.now ≡ 0 = omega arith in
    let P : Bool → Type 0 = λ b. TakesPair b (entry_view c.args.entry.now).sig (c.args.steps.now - c.args.steps.now) in
    subst P (sym known) none

pub returns-in-None-clause-counted : goal.returns-in-None-clause-counted
returns-in-None-clause-counted c =
    let none = none_known (verdict_views c.args.known.now) (c.args.place, key_view c.args.key.now) (sym c.in-None.ensures) in
    let P : Bool → Type 0 = λ b. TakesPair b (entry_view c.args.entry.now).sig (c.digits_verify.new.steps - c.args.steps.now) in
    subst P (sym none) (rw c.as_bytes.ensures.value at c.digits_verify.ensures.counted)
