pub mod Order
pub mod Served
pub mod steps
