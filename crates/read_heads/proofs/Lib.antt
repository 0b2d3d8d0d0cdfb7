pub mod Split
mod Heads
