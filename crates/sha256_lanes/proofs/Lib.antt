pub mod LaneLemmas
pub mod Padding
