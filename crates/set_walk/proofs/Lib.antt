pub mod Members
pub mod Costs
pub mod Least
pub mod Steps
