pub mod Events
pub mod Exports
