-- Definitions that contracts of private functions cite.
pub mod Cut
pub mod Joined
