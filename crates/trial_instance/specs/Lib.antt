-- The definitions that the contracts cite.
pub mod Draws
pub mod Trial
