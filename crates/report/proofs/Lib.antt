pub mod Lines
pub mod ServedRows
pub mod TableLines
pub mod JsonTexts
