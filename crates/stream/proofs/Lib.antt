mod Streams
pub mod Pieces
