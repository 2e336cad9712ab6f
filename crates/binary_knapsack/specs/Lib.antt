pub mod Knapsack
pub mod Loads
pub mod Bounds
pub mod Site
