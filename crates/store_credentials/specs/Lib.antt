pub mod NextSerial
pub mod Unlinked
