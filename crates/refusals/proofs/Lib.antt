pub mod Accepted
pub mod Booleans
