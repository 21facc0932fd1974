pub mod Output
pub mod WellFormed
pub mod Answers
pub mod Ledger
