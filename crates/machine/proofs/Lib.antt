pub mod PrunedAnswers
pub mod SentAgain
pub use Rattle.granting.proofs.Counting
