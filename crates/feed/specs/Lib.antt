pub mod Ending
pub mod Feed
pub mod Window
