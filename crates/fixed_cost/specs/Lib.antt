-- The definitions that the contracts cite.
pub mod Amount
pub mod Claim
pub mod Faults
pub mod Reading
