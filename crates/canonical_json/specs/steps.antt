-- What the code does step by step, on lists. Contracts of private functions alone cite these.
pub mod Reading
pub mod Skipping
pub mod Texts
pub mod Writing
