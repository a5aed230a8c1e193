pub mod Parts
pub mod Touches
pub mod Reading
pub mod Present
pub mod Counts
pub mod Laws
