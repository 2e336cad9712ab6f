-- The definitions that the contracts cite.
pub mod History
pub mod Chain
