pub mod Rising
pub mod Rows
pub mod Listings
pub mod Story
