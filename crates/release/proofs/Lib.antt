pub mod AfterPuts
pub mod Ending
pub mod Serving
