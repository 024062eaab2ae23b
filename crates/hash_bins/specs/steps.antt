-- Definitions that contracts of private functions cite.
pub mod Sharing
