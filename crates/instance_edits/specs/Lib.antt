pub mod Edits
pub mod Undo
pub mod Ready
