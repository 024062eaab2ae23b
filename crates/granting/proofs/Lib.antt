pub mod Counting
pub mod GrantedFrom
pub mod LoadedFiles
pub mod ServedFrom
pub mod ShortFiles
pub mod TargetFiles
pub use Rattle.trusted_state.proofs.ListedVerdicts
