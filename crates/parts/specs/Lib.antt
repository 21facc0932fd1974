pub mod Answers
pub mod Forward
