-- The definitions that the contracts cite.
pub mod Own
pub mod OwnText
pub mod Words
pub mod Settled
pub mod Head
pub mod Behind
