pub mod Response
pub mod Serving
pub mod steps
