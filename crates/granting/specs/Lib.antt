pub mod Seeing
pub mod Serving
pub mod steps
pub use Rattle.trusted_state.specs.Answers
pub use Rattle.trusted_state.specs.Knowing
pub use Rattle.trusted_state.specs.Room
pub use Rattle.trusted_state.specs.Views as StateViews
pub use Rattle.trusted_state.specs.PartViews
pub use Rattle.trusted_state.specs.DeclaredEffects
pub use Rattle.trusted_state.specs.contracts.held.Held as HeldContracts
pub use Rattle.trusted_state.specs.declared.outcome.Batched as DeclaredBatched
pub use Rattle.trusted_state.specs.declared.outcome.Outcome as DeclaredOutcome
pub use Rattle.trusted_state.specs.declared.outcome.Outcome.TheVariants as Outcomes
pub use Rattle.trusted_state.specs.declared.refusal.BatchRefusal as DeclaredBatchRefusal
pub use Rattle.trusted_state.specs.declared.refusal.BatchRefusal.TheVariants as BatchRefusals
pub use Rattle.trusted_state.specs.declared.refusal.Refusal as DeclaredRefusal
pub use Rattle.trusted_state.specs.declared.refusal.Refusal.TheVariants as Refusals
