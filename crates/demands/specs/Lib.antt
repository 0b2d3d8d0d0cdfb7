pub mod History
pub mod Demands
pub mod Effects
pub mod Later
