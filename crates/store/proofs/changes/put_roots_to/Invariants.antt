use Rattle.limits.specs.Limits.{most_held}
use Rattle.std.proofs.Common.{◌≡◌, ◌≤◌, map, length}
use Rattle.metadata.specs.FileViews.{root_file}
use Rattle.repository_tables.specs.Changes.{after_all}
use Rattle.repository_rows.specs.Contents.{Contents}
use Rattle.store.specs.steps.Changed.{more_roots, new_roots}
use Rattle.store.proofs.changes.put_roots_to.Given as goal

abbrev pub invariant-roots : goal.invariant-roots
invariant-roots l = record {
  few : length l.rest ≤ most_held;
  same : (t : Contents) → more_roots (new_roots l.fn.last (map root_file l.rest)) (after_all l.changes.items t)
      ≡ more_roots (new_roots l.fn.last (map root_file l.fn.roots)) (after_all l.initial.changes.items t);
}

abbrev pub decreases-roots : goal.decreases-roots
decreases-roots l = length l.rest
