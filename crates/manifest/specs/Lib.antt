pub mod Views
pub mod Fields
pub mod Reading
pub mod Checking
pub mod Least
