pub mod Turns
pub mod Story
pub mod Kept
