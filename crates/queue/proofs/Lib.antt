pub mod Flow
pub mod Room
pub mod Sharp
pub mod Steps
pub mod Theorem
pub mod Windows
