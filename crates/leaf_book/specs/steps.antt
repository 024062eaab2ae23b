-- Definitions that contracts of private functions cite.
pub mod Loading
pub mod Making
