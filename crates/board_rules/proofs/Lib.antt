pub mod WellFormed
pub mod BuffersSheet
