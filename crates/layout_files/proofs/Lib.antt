pub mod LayoutsNamed
pub mod LayoutsOnce
mod RuleWords
