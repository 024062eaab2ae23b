pub mod Bins
pub mod Views
pub mod steps
