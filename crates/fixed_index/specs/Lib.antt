pub mod Writing
pub mod Viewing
pub mod Laws
