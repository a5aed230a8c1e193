pub mod Cutting
pub mod Frames
pub mod Laws
pub mod Puts
