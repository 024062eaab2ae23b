pub mod Within
pub mod Delegations
pub mod Finding
pub mod Layouts
pub mod References
pub mod Links
pub mod steps
