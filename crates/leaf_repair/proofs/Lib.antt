pub mod Placing
pub mod Fitting
pub mod Listed
pub mod Reduced
pub mod Told
