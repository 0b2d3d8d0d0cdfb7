pub mod Cut
pub mod RowLines
pub mod Shapes
pub mod WordTables
mod FormulaLetters
