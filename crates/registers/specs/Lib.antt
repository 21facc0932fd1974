pub mod Map
pub mod Control
pub mod Window
pub mod Codes
