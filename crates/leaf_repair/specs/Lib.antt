-- The definitions that the contracts cite.
pub mod CarriedTree
pub mod Held
pub mod Placed
pub mod UnderWay
