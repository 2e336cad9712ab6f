pub mod Ends
pub mod NamedFile
pub mod Parts
pub mod Quitting
pub mod Talking
