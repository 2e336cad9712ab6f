pub mod Due
pub mod Held
pub mod Reply
pub mod Status
pub mod Talk
pub mod Words
