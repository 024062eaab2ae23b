-- Definitions that contracts of private functions cite.
pub mod Changed
pub mod Doing
pub mod Loading
pub mod Replies
