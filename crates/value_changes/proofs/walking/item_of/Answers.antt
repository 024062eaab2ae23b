use Rattle.value_changes.proofs.ByIndex.{item_lookup}
use Rattle.value_changes.proofs.walking.item_of.Goals as goal

pub returns : goal.returns
returns c = item_lookup c.args.items.now c.args.index c.get.result c.get.ensures.lookup.3
