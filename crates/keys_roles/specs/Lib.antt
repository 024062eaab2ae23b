pub mod Plain
pub mod Keys
pub mod Rules
pub mod Verdicts
pub mod BeforeLevels
pub mod Views
pub mod steps
