pub mod Fetching
pub mod Several
