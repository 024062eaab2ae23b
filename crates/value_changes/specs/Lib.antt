pub mod Changes
pub mod Views
pub mod steps
