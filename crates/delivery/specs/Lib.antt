pub mod Calls
pub mod Noted
pub mod Placed
pub mod Delivery
