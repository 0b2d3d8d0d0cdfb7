pub mod Halves
pub mod Places
