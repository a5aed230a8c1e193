pub mod Outcomes
pub mod Writers
pub mod Parts
pub mod Runs
pub mod Frees
pub mod Turns
pub mod Replays
pub mod Loaded
