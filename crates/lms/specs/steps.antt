-- What the code does step by step. Contracts of private functions alone cite these.
pub mod Lanes
pub mod Leaves
pub mod Levels
