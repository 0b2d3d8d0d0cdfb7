pub mod Clauses
pub mod Examples
pub mod Lists
