pub mod Json
pub mod Spelling
pub mod Faults
pub mod View
pub mod steps
