pub mod Frames
pub mod Tags
pub mod Sights
pub mod Told
pub mod LatestFrame
pub mod Words
pub mod Found
pub mod TurnsSheet
