pub mod Tab
pub mod Chain
pub mod Groups
pub mod Store
