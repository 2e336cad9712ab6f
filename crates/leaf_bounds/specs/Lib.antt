pub mod LeafFault
pub mod Gathered
