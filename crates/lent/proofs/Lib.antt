pub mod Behind
pub mod Lending
