pub mod Names
pub mod Tables
mod NameTexts
