pub mod Exits
pub mod Meaning
pub mod Passing
pub mod Transcripts
