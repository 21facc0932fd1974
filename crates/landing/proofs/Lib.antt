pub mod Buffer
pub mod Beside
pub mod Theorem
