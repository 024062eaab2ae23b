pub mod Doing
