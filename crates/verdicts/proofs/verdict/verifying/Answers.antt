use Rattle.std.proofs.Common.{rules, ◌≡◌, ℕ, ◌+◌, ◌∙◌, arith}
use Rattle.verdicts.proofs.verdict.verifying.Goals as goal

-- what is counted from none on
from_none : (none all n : ℕ) → none ≡ 0 → all ≡ none + n → all ≡ n
from_none none all n a b = omega (arith, a, b)

pub returns-then-valid : goal.returns-then-valid
returns-then-valid c =
    let same : c.args.public.now ≡ c.in-Some.public.now = search rules in
    let e = c.verify_counted-valid.ensures in
    rw same (
      e.valid.0 c.if-valid.true,
      record {
        counted = λ l o i r q n es p key is. c.count.ensures ∙ from_none _ _ _ c.new-steps.ensures (e.counted l o i r q n es p key is);
        refused = λ none. c.count.ensures ∙ e.refused none ∙ c.new-steps.ensures;
      },
    )

pub returns-else-valid : goal.returns-else-valid
returns-else-valid c =
    let same : c.args.public.now ≡ c.in-Some.public.now = search rules in
    let e = c.verify_counted-valid.ensures in
    rw same (
      λ v. (let yes = e.valid.1 v in let no = c.if-valid.false in cc),
      record {
        counted = λ l o i r q n es p key is. c.count-else-valid.ensures ∙ from_none _ _ _ c.new-steps.ensures (e.counted l o i r q n es p key is);
        refused = λ none. c.count-else-valid.ensures ∙ e.refused none ∙ c.new-steps.ensures;
      },
    )
