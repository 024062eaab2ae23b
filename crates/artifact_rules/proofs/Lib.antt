pub mod Changing
pub mod Faulting
pub mod Judging
pub mod Matching
pub mod Ordered
pub mod Places
pub mod Reaching
