-- Definitions that contracts of private functions cite.
pub mod Found
pub mod Told
