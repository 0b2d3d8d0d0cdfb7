pub mod Texts
pub mod Rules
pub mod Lawful
pub mod Numbers
pub mod Reopen
pub mod Compute
pub mod Cases
