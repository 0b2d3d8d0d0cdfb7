pub mod Gives
pub mod Tally
pub mod ByFormula
pub mod Sets
