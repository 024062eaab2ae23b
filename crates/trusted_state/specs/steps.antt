pub mod Carrying
pub mod Judging
