pub mod BoardHistories
pub mod BoardBefore
pub mod Handing
