pub mod Changes
pub mod Opening
pub mod Migration
pub mod steps
