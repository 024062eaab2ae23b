pub mod Permitting
