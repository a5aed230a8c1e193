pub mod Pieces
pub mod Listed
pub mod Faults
