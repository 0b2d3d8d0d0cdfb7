pub mod Tabs
pub mod Search
pub mod LinesOfRows
pub mod Chains
pub mod Views
pub mod Live
