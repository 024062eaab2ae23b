use Rattle.std.proofs.lemmas.Bool.{false≢true}
use Rattle.table_rows.proofs.FourLemmas.{no_item}
use Rattle.table_rows.proofs.fours.item_of.Goals as goal

pub returns-else-is_same : goal.returns-else-is_same
returns-else-is_same c row bytes reads fits long is = no_item row c.args.named bytes c.args.own.now reads fits is (λ same. false≢true (c.if-is_same.ensures.other same))
