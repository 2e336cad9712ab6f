-- The definitions that the contracts cite.
pub mod Due
pub mod Follow
pub mod Model
pub mod Kind
pub mod Head
pub mod Length
pub mod Lines
pub mod Shape
pub mod Text
