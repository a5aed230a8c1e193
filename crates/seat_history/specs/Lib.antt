pub mod Entered
pub mod Lanes
pub mod Laws
