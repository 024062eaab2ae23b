pub mod Members
pub mod Names
pub mod Drafts
pub mod Timestamps
pub mod Snapshots
pub mod Targets
pub mod Roots
pub mod steps
