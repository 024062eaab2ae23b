-- Definitions that contracts of private functions cite.
pub mod Faults
pub mod Rising
pub mod Tables
