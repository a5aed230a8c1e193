pub mod Pieces
pub mod Writing
pub mod Viewing
pub mod Entries
pub mod Laws
