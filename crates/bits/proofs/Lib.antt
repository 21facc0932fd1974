pub mod Booleans
pub mod Ranges
pub mod Raised
pub mod Words
