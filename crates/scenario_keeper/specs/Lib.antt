pub mod Calls
pub mod MapKeeper
pub mod Named
pub mod Names
pub mod Scenario
pub mod Spelling
pub mod Stored
pub mod Table
