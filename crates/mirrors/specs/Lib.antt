pub mod Address
pub mod Together
pub mod steps
