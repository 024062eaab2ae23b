use Rattle.std.proofs.Common.{sym}
use Rattle.std.proofs.lemmas.List.{map-append}
use Rattle.trusted_state.proofs.RootRows.{few_earlier, rows_kept, rows_none}
use Rattle.trusted_state.proofs.stored.numbered_roots.Goals as goal

pub returns-in_default : goal.returns-in_default
returns-in_default c = rw (c.new.ensures.items) (sym (rows_none c.args.trusted.now c.requires c.in_default.is))

pub numbered_earlier-requires : goal.numbered_earlier-requires
numbered_earlier-requires c = rw (c.deref.ensures.value) (few_earlier c.args.trusted.now c.requires)

pub returns : goal.returns
returns c =
    rw (c.in_ok-push.ensures.items, map-append, c.in_ok-roots.ensures, c.deref.ensures.value, c.bytes.ensures)
    (sym (rows_kept c.args.trusted.now c.in-Some.last c.in-Some.is))
