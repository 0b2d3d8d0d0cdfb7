pub mod Cells
pub mod CellWrites
pub mod CredentialRows
pub mod GroupSets
