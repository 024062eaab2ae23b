use Rattle.std.proofs.Common.{◌≡◌, string_bytes, rules, sym, ap, ◌∙◌, arith}
use Rattle.std.proofs.lemmas.List.{get_or_default}
use Rattle.chain_drafting.proofs.RoleRows.{ahead_found, ahead_none}
use Rattle.drafting.proofs.Rows.{Row}
use Rattle.chain_drafting.proofs.delegations.place_of.Goals as goal

pub returns-then-eq-clause-ahead : goal.returns-then-eq-clause-ahead
returns-then-eq-clause-ahead c =
    let ms = c.args.list.now in
    let i = c.loop-i.i in
    let is : c.as_str.result.now ≡ c.args.role.now = search rules in
    ahead_found ms i c.args.role.now c.loop-i-test.true c.loop-i.invariant
    (λ d. ap (λ (r : Row). string_bytes r.0) (sym (c.index-list-i.is ∙ get_or_default ms i c.index-list-i.result d c.loop-i-test.true)) ∙ sym c.as_str.ensures.value ∙ is)

pub returns-clause-ahead : goal.returns-clause-ahead
returns-clause-ahead c = ahead_none c.args.list.now c.args.role.now (λ k lt d. c.loop-i.invariant k (omega arith) d)
