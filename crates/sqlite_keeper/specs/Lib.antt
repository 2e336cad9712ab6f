pub mod Keeper
