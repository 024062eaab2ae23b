use Rattle.std.proofs.Common.{sym, ◌∙◌}
use Rattle.delegations.specs.Rows.{place_before, same_place}
use Rattle.delegations.specs.RowViews.{row_views}
use Rattle.delegations.proofs.KeyOrder.{orders_places}
use Rattle.delegations.proofs.RisingKeys.{rises_tells}
use Rattle.delegations.proofs.rows.are_in_order.Goals as goal

pub returns : goal.returns
returns c =
    let tells = rises_tells place_before same_place orders_places (row_views c.args.rows.now) in
    ((λ t. tells.0 (sym c.rows_rise.ensures ∙ t)), (λ r. c.rows_rise.ensures ∙ tells.1 r))
