pub mod InBox
pub mod Packed
pub mod Flags
pub mod Packing
pub mod Turns
