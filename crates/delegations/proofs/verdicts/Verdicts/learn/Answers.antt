use Rattle.std.proofs.Common.{◌≡◌, ◌++◌, ◌∙◌, [], ◌∷◌, ap, arith, length, sym}
use Rattle.std.proofs.lemmas.List.{length-map}
use Rattle.keys_roles.specs.Views.{verdict_view}
use Rattle.delegations.specs.Verdicts.{Table, verdict_count}
use Rattle.delegations.specs.Views.{known_row, table_view}
use Rattle.delegations.specs.declared.verdicts.RowVerdicts.{RowVerdicts}
use Rattle.delegations.proofs.FoundOut.{rows_more}
use Rattle.delegations.proofs.Gathered.{count_more}
use Rattle.delegations.proofs.verdicts.Verdicts.learn.Goals as goal

pub invariant_of-self-2 : goal.invariant_of-self-2
invariant_of-self-2 c =
    let T : Table = table_view c.self.inside.rows.items in
    let row : RowVerdicts = c.in_ok-row.row in
    let new : table_view c.push.new.self.items ≡ T ++ known_row row ∷ [] = ap table_view c.in_ok-push.ensures.items ∙ rows_more c.self.inside.rows.items row in
    let sum : verdict_count (table_view c.push.new.self.items) ≡ verdict_count (T ++ known_row row ∷ []) = ap verdict_count new in
    let many : length (known_row row).1 ≡ length row.verdicts.items = length-map row.verdicts.items verdict_view in
    let count = c.count.ensures in
    let is : verdict_count c.args.self.now ≡ verdict_count T = ap verdict_count (sym c.self.view_is) in
    let one = c.len.ensures in
    let within = c.if-count-len-gt-MOST_VERDICTS.false in
    let more = count_more T (known_row row) in
    omega (arith, sum, many, count, is, one, within, more)
