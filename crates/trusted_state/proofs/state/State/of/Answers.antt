use Rattle.std.proofs.Common.{ℕ, List, sym, subst}
use Rattle.metadata.specs.File.{Bytes}
use Rattle.trust_rules.specs.Held.{IsHeld}
use Rattle.state_parts.specs.Views.{parts_view, trusted_view}
use Rattle.trust_rules.proofs.HeldStates.{held_valid}
use Rattle.trusted_state.proofs.state.State.of.Goals as goal

pub of-requires-clause-valid : goal.of-requires-clause-valid
of-requires-clause-valid c =
    subst (λ (l : List (Bytes × ℕ)). IsHeld (record { trusted = trusted_view c.args.parts.trusted; blobs = l })) (sym c.requires.lengths) (held_valid (parts_view c.args.parts) c.requires.valid)
