pub mod TextLines
pub mod PastLines
pub mod TextForms
