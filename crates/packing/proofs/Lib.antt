pub mod Lanes
pub mod Zeros
pub mod Unpacking
