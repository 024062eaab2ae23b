pub mod Doing
pub mod Ending
pub mod Offering
