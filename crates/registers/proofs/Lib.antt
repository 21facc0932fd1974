pub mod Masks
pub mod RegisterSheet
