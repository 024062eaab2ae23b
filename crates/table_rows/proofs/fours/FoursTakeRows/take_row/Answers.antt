use Rattle.std.proofs.lemmas.Result.{on_ok_weaker}
use Rattle.table_rows.proofs.FourLemmas.{all_came}
use Rattle.table_rows.proofs.fours.FoursTakeRows.take_row.Goals as goal

pub returns-in_default : goal.returns-in_default
returns-in_default c =
    on_ok_weaker c.take_row.result (λ took rows come. all_came _ _ _ _ (took rows (c.in_ok-settle.ensures.rows rows come)) c.in_ok-settle.ensures.held) c.take_row.ensures

pub returns : goal.returns
returns c = on_ok_weaker c.hold.result (λ took rows come. took rows c.args.row.now c.in-Some.ensures.0 c.in-Some.ensures.1 come) c.hold.ensures
