pub mod Texts
pub mod Tests
pub mod Whole
pub mod Writes
