-- What the code finds step by step. Contracts of private functions alone cite it.
pub mod Cutting
pub mod Denials
pub mod Known
pub mod Prefixes
pub mod Said
