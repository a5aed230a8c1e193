pub mod Outcomes
pub mod Stops
