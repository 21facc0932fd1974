pub mod EveryRule
pub mod WellFormed
pub mod BenchSheet
pub mod CropWindow
pub mod RequestSheet
pub mod CodesSheet
