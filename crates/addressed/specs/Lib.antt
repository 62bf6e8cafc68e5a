pub mod Pieces
pub mod Addressed
