-- What the code does step by step, on lists. Contracts of private functions alone cite these.
pub mod Pairs
pub mod Turns
pub mod Walking
