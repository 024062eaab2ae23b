pub mod BeforeLevels
pub mod BeforeProfiles
pub mod File
pub mod FileViews
pub mod Shape
pub mod Shaped
pub mod Signed
pub mod steps
