mod Steps
mod Cells
mod LastEntry
mod MorePieces
mod Faults
mod TextParts
pub mod Spelling
pub mod Reading
mod InRange
