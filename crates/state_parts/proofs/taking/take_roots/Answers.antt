use Rattle.std.proofs.Common.{sym, ◌∙◌, append_assoc}
use Rattle.std.proofs.lemmas.List.{map-append}
use Rattle.trust_rules.proofs.MoreRootsAndRows.{last_of}
use Rattle.trust_rules.proofs.PutInRoom.{room_left}
use Rattle.state_parts.proofs.taking.take_roots.Goals as goal

pub loop-root-preserved : goal.loop-root-preserved
loop-root-preserved c = record {
  kept = rw (c.push_root.ensures.kept, c.loop-root.invariant.kept) (simp (map-append, append_assoc));
  last = c.push_root.ensures.last ∙ sym (last_of _ c.loop-root.yielded c.in-Some.root);
  room = room_left _ _ _ c.loop-root.yielded c.in-Some.root c.loop-root.invariant.room c.push_root.ensures.room;
}
