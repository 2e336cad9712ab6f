-- The definitions that the contracts cite.
pub mod Judgement
pub mod Verdict
