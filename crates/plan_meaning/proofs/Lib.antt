pub mod Rising
pub mod Tested
pub mod Served
pub mod Sums
pub mod Faults
pub mod Carrying
