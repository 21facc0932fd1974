pub mod Ready
pub mod Noted
pub mod Going
pub mod Stretches
pub mod AcceptedRuns
pub mod DataBytes
