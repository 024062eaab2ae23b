pub mod Words
pub mod RuleCase
pub mod Case
pub mod Verdict
pub mod Lines
pub mod Failure
