pub mod SumLaws
pub mod Giving
pub mod Walking
pub mod ByFormula
pub mod SetSums
pub mod Walks
pub mod Tallied
