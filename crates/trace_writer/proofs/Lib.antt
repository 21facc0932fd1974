pub mod Filling
pub mod RoundTrips
pub mod TwoArrays
pub mod WriterSheet
