pub mod Slackness
pub mod Walk
pub mod Paid
pub mod Adjustment
pub mod Present
pub mod Adjusted
pub mod Stored
