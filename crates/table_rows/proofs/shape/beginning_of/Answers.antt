use Rattle.std.proofs.Common.{rules, ◌≡◌, ◌∙◌, MatchOption, None, Some, codes, arith, subst, sym, true≢false}
use Rattle.sqlite_schema.specs.Names.{table_named}
use Rattle.table_rows.specs.Schema.{HasFirst, IsBeginning}
use Rattle.table_rows.proofs.Beginnings.{found_few, found_five, not_five, not_free, not_second}
use Rattle.table_rows.proofs.shape.beginning_of.Goals as goal

pub returns-in_err-count : goal.returns-in_err-count
returns-in_err-count c = subst (λ o. MatchOption o (IsBeginning c.args.schema.now → ⊥) (λ count. HasFirst count c.args.schema.now)) (sym c.from_residual.ensures) (not_five c.args.schema.now c.in_err-count.ensures)

pub returns-then-count-lt5 : goal.returns-then-count-lt5
returns-then-count-lt5 c = found_few c.in_ok-count.count c.args.schema.now c.in_ok-count.ensures c.if-count-lt5.true

pub returns-else-is_free : goal.returns-else-is_free
returns-else-is_free c =
    let none : table_named c.args.schema.now (codes "root2") ≡ None = search rules in
    not_free c.args.schema.now (found_five c.in_ok-count.count c.args.schema.now c.in_ok-count.ensures (omega (arith, c.if-count-lt5.false))) none
    (λ free. true≢false (sym (c.is_free.ensures.other free) ∙ c.if-is_free.false))

pub returns-else-has_second : goal.returns-else-has_second
returns-else-has_second c =
    let there : table_named c.args.schema.now (codes "root2") ≡ Some c.in-Some.place = search rules in
    not_second c.args.schema.now c.in-Some.place (found_five c.in_ok-count.count c.args.schema.now c.in_ok-count.ensures (omega (arith, c.if-count-lt5.false))) there
    (λ tree second. true≢false (sym (c.has_second.ensures.other tree second) ∙ c.if-has_second.false))
