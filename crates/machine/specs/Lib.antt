pub use Rattle.granting.specs.Answers
pub use Rattle.granting.specs.Knowing
pub use Rattle.granting.specs.Room
pub use Rattle.granting.specs.StateViews
pub use Rattle.granting.specs.PartViews
pub use Rattle.granting.specs.DeclaredEffects
pub use Rattle.granting.specs.HeldContracts
pub use Rattle.granting.specs.DeclaredBatched
pub use Rattle.granting.specs.DeclaredOutcome
pub use Rattle.granting.specs.Outcomes
pub use Rattle.granting.specs.DeclaredBatchRefusal
pub use Rattle.granting.specs.BatchRefusals
pub use Rattle.granting.specs.DeclaredRefusal
pub use Rattle.granting.specs.Refusals
pub use Rattle.granting.specs.Serving
pub use Rattle.granting.specs.declared.serving.GetFault as DeclaredGetFault
pub use Rattle.granting.specs.declared.serving.GetFault.TheVariants as GetFaults
pub use Rattle.granting.specs.declared.serving.LoadFault as DeclaredLoadFault
pub use Rattle.granting.specs.declared.serving.LoadFault.TheVariants as LoadFaults
pub use Rattle.granting.specs.declared.serving.Served as DeclaredServed
