-- Definitions that contracts of private functions cite.
pub mod Refused
pub mod Unwritten
pub mod Rows
pub mod Rules
