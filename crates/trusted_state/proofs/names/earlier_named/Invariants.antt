use Rattle.std.proofs.Common.{◌≡◌, map, length}
use Rattle.document_parts.specs.Views.{profile_view}
use Rattle.keys_roles.specs.Plain.{look_up}
use Rattle.trust_rules.specs.steps.NamedFiles.{earlier_files}
use Rattle.trusted_state.proofs.names.earlier_named.Given as goal

abbrev pub invariant-roots : goal.invariant-roots
invariant-roots l =
    look_up (earlier_files l.version (map (λ b. (profile_view b.0, b.1.items)) l.rest)) l.name ≡ look_up (earlier_files l.version (map (λ b. (profile_view b.0, b.1.items)) l.earlier)) l.name

abbrev pub decreases-roots : goal.decreases-roots
decreases-roots l = length l.rest
