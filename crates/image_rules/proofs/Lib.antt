pub mod Inverse
pub mod ImageSheet
pub mod BoardInverse
pub mod BoardImageSheet
