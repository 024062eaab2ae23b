pub mod Answers
pub mod Knowing
pub mod Room
pub mod Views
pub mod steps
pub use Rattle.state_parts.specs.Views as PartViews
pub use Rattle.state_parts.specs.declared.effects.Effects as DeclaredEffects
