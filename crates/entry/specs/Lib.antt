pub mod Edition
pub mod Entered
pub mod Examples
pub mod Played
pub mod Saved
