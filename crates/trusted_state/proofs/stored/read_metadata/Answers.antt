use Rattle.std.proofs.Common.{refl}
use Rattle.trusted_state.proofs.stored.read_metadata.Goals as goal

pub returns-in_default-clause-none : goal.returns-in_default-clause-none
returns-in_default-clause-none c E h = (rw (c.deref.ensures.value, c.in_default.is) at c.in_ok-roots.ensures.none) E.roots h.roots

pub returns-in_default-2-clause-none : goal.returns-in_default-2-clause-none
returns-in_default-2-clause-none c E h = (rw (c.in_default-2.is) at c.in_ok-timestamp.ensures.none) E.timestamp h.timestamp

pub returns-in_default-3-clause-none : goal.returns-in_default-3-clause-none
returns-in_default-3-clause-none c E h = (rw (c.in_default-3.is) at c.in_ok-snapshot.ensures.none) E.snapshot h.snapshot

pub returns-in_default-4-clause-none : goal.returns-in_default-4-clause-none
returns-in_default-4-clause-none c E h = (rw (c.deref-2.ensures.value, c.in_default-4.is) at c.in_ok-rows.ensures.none) E.rows h.shelf

pub returns-clause-some : goal.returns-clause-some
returns-clause-some c = record {
  roots = rw (c.deref.ensures.value, c.in-Some.is) at c.in_ok-roots.ensures.some;
  timestamp = rw (c.in-Some-2.is) at c.in_ok-timestamp.ensures.some;
  snapshot = rw (c.in-Some-3.is) at c.in_ok-snapshot.ensures.some;
  shelf = rw (c.deref-2.ensures.value, c.in-Some-4.is) at c.in_ok-rows.ensures.some;
  blobs = refl;
}
