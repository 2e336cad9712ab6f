-- The definitions that the contracts cite.
pub mod Behind
pub mod Transcript
