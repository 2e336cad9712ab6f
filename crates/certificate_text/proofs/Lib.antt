pub mod Keeping
pub mod Reading
pub mod Rows
pub mod Nodes
pub mod Parts
pub mod OneText
pub mod GivesBack
