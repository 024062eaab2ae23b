use Rattle.std.proofs.Common.{◌≡◌, ◌≤◌, ◌++◌, map, length}
use Rattle.limits.specs.Limits.{most_held}
use Rattle.document_parts.specs.Views.{profile_view}
use Rattle.trust_rules.specs.steps.Stored.{earlier_roots}
use Rattle.trusted_state.proofs.stored.numbered_earlier.Given as goal

abbrev pub invariant-roots : goal.invariant-roots
invariant-roots l = record {
  few : length l.rest ≤ most_held;
  same : map (λ r. (r.0, r.1.now)) l.roots.items ++ earlier_roots l.fn.version (map (λ b. (profile_view b.0, b.1.items)) l.rest)
      ≡ earlier_roots l.fn.version (map (λ b. (profile_view b.0, b.1.items)) l.fn.earlier);
}

abbrev pub decreases-roots : goal.decreases-roots
decreases-roots l = length l.rest
