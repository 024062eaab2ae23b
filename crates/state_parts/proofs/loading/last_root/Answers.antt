use Rattle.std.proofs.Common.{arith, length, ◌-◌, sym, None}
use Rattle.metadata.specs.FileViews.{root_file}
use Rattle.trust_rules.proofs.MoreRootsAndRows.{last_at}
use Rattle.state_parts.proofs.loading.last_root.Goals as goal

pub returns-in-Some : goal.returns-in-Some
returns-in-Some c =
    rw (← c.deref.ensures.value)
    (sym (last_at root_file None c.deref.result.now c.in-Some.root.now (length c.deref.result.now - 1) (omega (arith, c.in-Some.ensures.item.3.0)) (c.in-Some.ensures.item.3.1 _)))
