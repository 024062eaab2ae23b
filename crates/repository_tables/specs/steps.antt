pub mod Writing
pub mod Migrating
