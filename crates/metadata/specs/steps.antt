-- Definitions that contracts of private functions cite.
pub mod Entries
pub mod Reads
pub mod Spelled
