pub mod AfterPuts
pub mod Serving
