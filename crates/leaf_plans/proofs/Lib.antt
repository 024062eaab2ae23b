pub mod Deciding
pub mod Listed
