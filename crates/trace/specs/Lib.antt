pub mod Decoding
pub mod Answers
