use Rattle.std.proofs.Common.{◌≡◌, ◌∷◌, IsTrue, IsUtf8, List, ℕ, rules, sym, subst, arith}
use Rattle.drafting.specs.Names.{IsPlain}
use Rattle.drafting.proofs.PlainTexts.{ends, spelled}
use Rattle.drafting.proofs.names.plain_text.Goals as goal

pub returns-then-first-ne34-clause-none : goal.returns-then-first-ne34-clause-none
returns-then-first-ne34-clause-none c = λ t u p e.
    let cut : c.args.spelled.now ≡ c.in-Some.first.now ∷ c.in-Some.rest.now = search rules in
    let x = ends t c.in-Some-split_last.inside.now c.in-Some.rest.now c.args.spelled.now c.in-Some.first.now c.in-Some-split_last.last.now p e cut c.in-Some-split_last.ensures.cases.0 in
    let h = c.if-first-ne34.true in
    let a = x.0 in
    grind (arith, h, a)

pub returns-then-last-ne34-clause-none : goal.returns-then-last-ne34-clause-none
returns-then-last-ne34-clause-none c = λ t u p e.
    let cut : c.args.spelled.now ≡ c.in-Some.first.now ∷ c.in-Some.rest.now = search rules in
    let x = ends t c.in-Some-split_last.inside.now c.in-Some.rest.now c.args.spelled.now c.in-Some.first.now c.in-Some-split_last.last.now p e cut c.in-Some-split_last.ensures.cases.0 in
    let h = c.if-last-ne34.true in
    let a = x.2 in
    grind (arith, h, a)

pub returns-then-not-is_plain-clause-none : goal.returns-then-not-is_plain-clause-none
returns-then-not-is_plain-clause-none c = λ t u p e.
    let cut : c.args.spelled.now ≡ c.in-Some.first.now ∷ c.in-Some.rest.now = search rules in
    let x = ends t c.in-Some-split_last.inside.now c.in-Some.rest.now c.args.spelled.now c.in-Some.first.now c.in-Some-split_last.last.now p e cut c.in-Some-split_last.ensures.cases.0 in
    let h = c.if-not-is_plain.true in
    let y : IsTrue c.is_plain.result = c.is_plain.ensures.1 (subst (λ (z : List ℕ). IsPlain z) (sym x.1) p) in
    grind (arith, h, y)

pub returns-in-Ok-clause-some : goal.returns-in-Ok-clause-some
returns-in-Ok-clause-some c =
    let cut : c.args.spelled.now ≡ c.in-Some.first.now ∷ c.in-Some.rest.now = search rules in
    let inside = c.in-Some-split_last.inside.now in
    let plain : IsPlain c.in-Some-split_last.inside.now = c.is_plain.ensures.0 (search rules) in
    let is : c.in-Ok.text.now ≡ c.in-Some-split_last.inside.now = c.in-Ok.ensures.cases.0 in
    let one : c.in-Some.first.now ≡ 34 = search rules in
    let other : c.in-Some-split_last.last.now ≡ 34 = search rules in (
      spelled c.args.spelled.now c.in-Some.rest.now c.in-Some-split_last.inside.now c.in-Ok.text.now c.in-Some.first.now c.in-Some-split_last.last.now cut c.in-Some-split_last.ensures.cases.0 one other is plain,
      subst (λ (z : List ℕ). IsPlain z) (sym is) plain,
      subst (λ (z : List ℕ). IsUtf8 z) (sym is) c.in-Ok.ensures.cases.1,
    )

pub returns-in-Err-clause-none : goal.returns-in-Err-clause-none
returns-in-Err-clause-none c = λ t u p e.
    let cut : c.args.spelled.now ≡ c.in-Some.first.now ∷ c.in-Some.rest.now = search rules in
    let x = ends t c.in-Some-split_last.inside.now c.in-Some.rest.now c.args.spelled.now c.in-Some.first.now c.in-Some-split_last.last.now p e cut c.in-Some-split_last.ensures.cases.0 in
    c.in-Err.ensures.cases.0 (subst (λ (z : List ℕ). IsUtf8 z) (sym x.1) u)
