pub mod SaidBack
pub mod Tail
mod Zeros
