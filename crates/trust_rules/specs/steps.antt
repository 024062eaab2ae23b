pub mod Loading
pub mod NamedFiles
pub mod Pruning
pub mod Stored
