pub mod Message
pub mod Refusing
pub mod Reply
pub mod Request
pub mod Sent
pub mod steps
