pub mod Sheets
pub mod Ends
pub mod Keeping
pub mod Statements
