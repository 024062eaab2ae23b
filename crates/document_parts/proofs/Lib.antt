pub mod Congruence
pub mod DateTexts
pub mod DelegationsOnce
mod DigestRows
pub mod Elements
pub mod Found
pub mod Growing
pub mod Halving
pub mod Ill
pub mod Instants
pub mod KeyObjects
pub mod Named
pub mod Once
pub mod OneOfTwo
pub mod PartsOnce
pub mod Rising
