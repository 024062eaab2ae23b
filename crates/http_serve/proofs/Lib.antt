pub mod Asked
pub mod Lines
pub mod Standings
pub mod OneResponse
pub mod Responding
pub mod Telling
pub mod Reading
pub mod Unavailable
