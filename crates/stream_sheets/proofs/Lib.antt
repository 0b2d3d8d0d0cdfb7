pub mod EmptyLines
pub mod Splits
mod Parting
mod Keeping
