pub mod Snapshot
pub mod Reopen
pub mod Reached
pub mod InForm
pub mod Statements
pub mod Cases
