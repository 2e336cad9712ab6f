pub mod Once
pub mod Standing
