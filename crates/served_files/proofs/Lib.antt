pub mod Files
pub mod InOrder
pub mod Roots
pub mod RootNames
pub mod Telling
