use Rattle.std.proofs.Common.{◌∙◌, sym, arith}
use Rattle.table_rows.proofs.FourLemmas.{all_came, four_came, three_of}
use Rattle.table_rows.proofs.fours.Fours.hold.Goals as goal

pub returns : goal.returns
returns c rows row reads fits come =
    let held = c.as_slice-held.result.now in
    let three = three_of held _ _ _ (omega arith) c.index-held-0.is c.index-held-1.is c.index-held-2.is in
    all_came _ _ _ _ (four_came rows _ _ _ _ _ _ _ _ row (sym c.as_slice-held.ensures.value ∙ three)
    (λ before p q r is_p is_q is_r files. c.in_ok-take_four.ensures before p q r row is_p is_q is_r reads fits files) come) c.clear.ensures.items
