pub mod State
pub mod Answers
pub mod TwoBuffers
pub mod BoardCalls
pub mod BoardRuns
pub mod HandingBack
