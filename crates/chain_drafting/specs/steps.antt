-- Definitions that contracts of private functions cite.
pub mod Delegated
pub mod Found
pub mod Said
pub mod Recorded
