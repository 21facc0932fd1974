pub mod Memory
pub mod Landing
