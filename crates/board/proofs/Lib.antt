pub mod Modes
pub mod TwoLandings
pub mod TwoMemories
pub mod HandedParts
