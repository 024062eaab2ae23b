pub mod Numbers
pub mod Pieces
pub mod Replying
pub mod Saying
pub mod Statuses
