pub mod Cutting
pub mod OneMore
pub mod Reading
