pub mod Calls
pub mod Puts
