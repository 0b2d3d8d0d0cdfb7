pub mod Facts
pub mod Gives
