pub mod Then
pub mod Bytes
pub mod FieldBytes
pub mod Decimals
pub mod LabelSets
pub mod Prefixes
