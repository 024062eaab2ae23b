-- Outcomes that are the same but for what they say is known.
use Rattle.std.specs.Prelude.{◌≡◌, Result, Ok, Err}
use Rattle.trust_rules.specs.State.{Trusted, IsTrusted}
use Rattle.trust_rules.specs.Effects.{brought, nothing_gone}
use Rattle.state_parts.specs.Views.{effects_view, gone_view}
use Rattle.state_parts.specs.declared.effects.Effects.{Effects}
use Rattle.trusted_state.specs.declared.outcome.Outcome.{Outcome}
use Rattle.trusted_state.specs.declared.outcome.Outcome.TheVariants.{Changed}
use Rattle.trusted_state.specs.declared.outcome.Outcome.TheVariants as outcomes
use Rattle.trusted_state.specs.declared.outcome.Batched.{Batched}
use Rattle.trusted_state.specs.declared.refusal.Refusal.{Refusal}
use Rattle.trusted_state.specs.declared.refusal.Refusal.TheVariants.{OutOfMemory}
use Rattle.trusted_state.specs.declared.refusal.BatchRefusal.{BatchRefusal}
use Rattle.trusted_state.specs.declared.refusal.BatchRefusal.TheVariants as batches

-- with the changes made, what is trusted is valid, and nothing goes
abbrev pub TakesOnly : Trusted → Effects → Type 0
TakesOnly T e = IsTrusted (brought T (effects_view e)) × (gone_view e.gone ≡ nothing_gone)

abbrev pub MakesTrusted : Trusted → Outcome → Type 0
MakesTrusted T (Changed e) = TakesOnly T e
MakesTrusted T outcomes.Same = Unit {0}

abbrev pub BatchMakesTrusted : Trusted → Batched → Type 0
BatchMakesTrusted T b = TakesOnly T b.effects

-- the same of what a call answers
abbrev pub LeavesTrusted : Trusted → Result Outcome Refusal → Type 0
LeavesTrusted T (Ok o) = MakesTrusted T o
LeavesTrusted T (Err refusal) = Unit {0}

abbrev pub BatchLeavesTrusted : Trusted → Result Batched BatchRefusal → Type 0
BatchLeavesTrusted T (Ok b) = BatchMakesTrusted T b
BatchLeavesTrusted T (Err refusal) = Unit {0}

-- the same outcome, or want of memory
abbrev pub IsSameOutcome : Outcome → Result Outcome Refusal → Type 0
IsSameOutcome (Changed e) (Ok (Changed f)) = effects_view f ≡ effects_view e
IsSameOutcome outcomes.Same (Ok outcomes.Same) = Unit {0}
IsSameOutcome o (Err OutOfMemory) = Unit {0}
IsSameOutcome o r = ⊥

abbrev pub IsSameBatch : Batched → Result Batched BatchRefusal → Type 0
IsSameBatch b (Ok c) = (effects_view c.effects ≡ effects_view b.effects) × (c.accepted ≡ b.accepted) × (c.same ≡ b.same)
IsSameBatch b (Err batches.OutOfMemory) = Unit {0}
IsSameBatch b (Err r) = ⊥
