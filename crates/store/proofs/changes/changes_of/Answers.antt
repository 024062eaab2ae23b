use Rattle.std.proofs.Common.{refl}
use Rattle.store.proofs.changes.changes_of.Goals as goal

pub returns : goal.returns
returns c t = rw (c.in_ok-put_blobs.ensures t, c.in_ok-put_rows.ensures t, c.in_ok-put_snapshot.ensures t, c.in_ok-put_timestamp.ensures t, c.in_ok-empty_if.ensures t, c.in_ok-put_roots.ensures t, c.in_ok-drop_blobs.ensures t, c.in_ok-drop_rows.ensures t, c.new-changes.ensures.items, c.deref.ensures.value, c.deref-2.ensures.value, c.deref-3.ensures.value, c.deref-4.ensures.value, c.deref-5.ensures.value) refl
