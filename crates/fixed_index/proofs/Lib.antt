mod Cutting
mod Cells
mod Faults
mod Joining
mod TextParts
pub mod Spelling
pub mod Reading
mod InRange
