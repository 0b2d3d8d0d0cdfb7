pub mod Named
pub mod Spanned
