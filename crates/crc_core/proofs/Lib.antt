pub mod Bounds
pub mod Shifting
pub mod TableEntries
pub mod Slicing
