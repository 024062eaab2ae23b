pub mod OneText
pub mod PlainAnswer
pub mod Shapes
pub mod Spelled
