pub mod Numbers
pub mod NumberAt
pub mod Putting
pub mod NumbersSheet
