pub mod Levels
pub mod Bad
