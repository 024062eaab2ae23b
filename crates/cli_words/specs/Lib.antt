pub mod Made
pub mod Subcommands
