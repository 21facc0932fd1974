pub mod Notes
pub mod Answers
pub mod Kinds
pub mod Unpadded
pub mod KindLaws
pub mod DataBytes
