-- Definitions that contracts of private functions cite.
pub mod Asked
pub mod Laws
pub mod Rounds
