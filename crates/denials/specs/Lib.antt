pub mod Checks
pub mod Numbers
pub mod Orders
pub mod Views
