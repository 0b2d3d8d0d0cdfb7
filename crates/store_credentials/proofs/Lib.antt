mod RowSerials
mod Stands
mod Removed
mod Gather
mod Given
mod Raised
