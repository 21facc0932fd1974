pub mod Bytes
pub mod Meanings
