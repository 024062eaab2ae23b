pub mod Schema
pub mod Faults
pub mod Rows
pub mod Standing
pub mod Calls
pub mod Runs
pub mod Views
pub mod steps
