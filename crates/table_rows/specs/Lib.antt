pub mod Schema
pub mod Rows
pub mod Tables
pub mod Reading
pub mod Faults
pub mod steps
