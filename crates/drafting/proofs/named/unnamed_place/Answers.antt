use Rattle.std.proofs.Common.{◌≡◌, ℕ, List, get_or, string_bytes, refl, ap, ◌∙◌, subst, arith, below_more}
use Rattle.std.proofs.lemmas.List.{get_or_default}
use Rattle.drafting.specs.Roots.{IsNamed}
use Rattle.drafting.proofs.Holders.{all_named}
use Rattle.drafting.proofs.Rows.{Row, shown}
use Rattle.drafting.proofs.named.unnamed_place.Goals as goal

pub returns : goal.returns
returns c =
    all_named (IsNamed (shown c.args.roles.now)) c.args.table.now (λ k lt d. c.loop-i.invariant k (omega arith) d)

pub loop-i-preserved : goal.loop-i-preserved
loop-i-preserved c =
    let i = c.loop-i.i in
    let row = c.index-table-i.result in
    below_more (λ (k : ℕ). (d : Row) → IsNamed (shown c.args.roles.now) (string_bytes (get_or c.args.table.now k d).0)) i c.loop-i.invariant (λ d.
    let same : c.as_str.result.now ≡ string_bytes (get_or c.args.table.now i d).0 =
    c.as_str.ensures.value ∙ ap (λ (r : Row). string_bytes r.0) (c.index-table-i.is ∙ get_or_default c.args.table.now i row d c.loop-i-test.true) in
    subst (λ (n : List ℕ). IsNamed (shown c.args.roles.now) n) same (c.if-not-named.ensures.0 refl))
