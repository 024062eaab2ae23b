pub mod Book
pub mod Planning
pub mod Views
