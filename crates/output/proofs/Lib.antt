pub mod Contents
pub mod Granting
pub mod ReadBack
pub mod WellFormed
pub mod Untouched
pub mod Bytes
pub mod Entered
pub mod OutputSheet
