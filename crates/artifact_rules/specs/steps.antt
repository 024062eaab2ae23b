-- Definitions that contracts of private functions cite.
pub mod Judging
pub mod Queue
pub mod Taking
