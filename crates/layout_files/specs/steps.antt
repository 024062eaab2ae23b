-- Definitions that contracts of private functions cite.
pub mod Spelled
pub mod Words
