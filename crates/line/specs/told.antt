pub mod Pieces
pub mod Taken
