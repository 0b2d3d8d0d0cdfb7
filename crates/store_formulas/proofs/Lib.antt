pub mod Found
mod Marks
mod Added
