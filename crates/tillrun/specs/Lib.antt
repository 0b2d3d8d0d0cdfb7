pub mod Complaints
pub mod Program
