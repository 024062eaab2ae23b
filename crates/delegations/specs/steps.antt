-- Definitions that contracts of private functions cite.
pub mod Course
pub mod Gathering
pub mod Reaching
pub mod Remains
pub mod Rising
