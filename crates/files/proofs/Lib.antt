pub mod Items
pub mod Samples
