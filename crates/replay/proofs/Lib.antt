pub mod Beginning
pub mod ByInput
pub mod Lines
pub mod Pieces
pub mod Steps
