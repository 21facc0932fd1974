pub mod File
pub mod WholeOrder
pub mod Parts
