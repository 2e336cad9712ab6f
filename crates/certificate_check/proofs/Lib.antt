pub mod Standing
pub mod Always
pub mod Answers
pub mod Decided
pub mod Judged
pub mod Meaning
pub mod One
