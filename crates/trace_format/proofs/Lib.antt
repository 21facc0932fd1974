pub mod Form
pub mod ReadBack
pub mod Rewritten
pub mod Walk
pub mod RequestSheet
