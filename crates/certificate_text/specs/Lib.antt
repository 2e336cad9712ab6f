-- The definitions that the contracts cite.
pub mod Cert
pub mod Form
pub mod GivesBack
pub mod Read
pub mod Written
