pub mod Compare
pub mod Comparing
pub mod Comparison
pub mod Laws
pub mod Orders
pub mod Reading
