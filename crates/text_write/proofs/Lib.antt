pub mod Numbers
pub mod Puts
pub mod Lengths
