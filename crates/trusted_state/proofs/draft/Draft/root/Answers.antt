use Rattle.std.proofs.Common.{arith, length, ◌-◌}
use Rattle.metadata.specs.FileViews.{root_file}
use Rattle.trust_rules.proofs.MoreRootsAndRows.{last_at}
use Rattle.trusted_state.proofs.draft.Draft.root.Goals as goal

pub returns-in-Some : goal.returns-in-Some
returns-in-Some c = rw (← c.deref.ensures.value) (last_at root_file _ c.deref.result.now _ (length c.deref.result.now - 1) (omega (arith, c.in-Some.ensures.item.3.0)) (c.in-Some.ensures.item.3.1 _))
