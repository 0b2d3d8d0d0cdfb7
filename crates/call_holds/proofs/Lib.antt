pub mod HoldSerials
pub mod Holding
pub mod Spending
