pub mod Several
pub mod Told
mod Reversals
mod Reading
