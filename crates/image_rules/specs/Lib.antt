pub mod Image
pub mod BoardImage
