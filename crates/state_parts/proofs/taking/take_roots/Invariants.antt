use Rattle.std.proofs.Common.{◌≡◌, ◌≤◌, ◌-◌, ◌+◌, ◌++◌, map, length, vec_len, vec_capacity}
use Rattle.document_parts.specs.Views.{profile_view}
use Rattle.trust_rules.specs.State.{kept_root}
use Rattle.metadata.specs.FileViews.{root_file}
use Rattle.trust_rules.specs.Effects.{last_or}
use Rattle.state_parts.specs.Views.{last_kept}
use Rattle.state_parts.proofs.taking.take_roots.Given as goal

abbrev pub invariant-loop-root : goal.invariant-loop-root
invariant-loop-root l = record {
  kept : map (λ b. (profile_view b.0, b.1.items)) l.earlier.items ++ last_kept l.last
      ≡ (map (λ b. (profile_view b.0, b.1.items)) l.initial.earlier.items ++ last_kept l.initial.last) ++ map (λ r. kept_root (root_file r)) l.yielded;
  last : l.last ≡ last_or l.initial.last l.yielded;
  room : length l.fn.roots.items ≤ (vec_capacity l.earlier - vec_len l.earlier) + length l.yielded;
}
