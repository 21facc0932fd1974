pub mod Bits
pub mod Ranges
pub mod Tests
