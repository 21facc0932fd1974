pub mod ManySamples
pub mod DecodingSheet
pub mod AllBits
