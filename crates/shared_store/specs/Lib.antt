pub mod Words
pub mod Applied
pub mod Comes
pub mod Acted
pub mod Views
