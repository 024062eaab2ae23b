pub mod Faults
pub mod Layouts
pub mod Views
pub mod steps
