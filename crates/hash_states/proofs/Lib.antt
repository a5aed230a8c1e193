mod Choosing
mod FourLanes
mod InQuarters
mod LaneLemmas
mod Rotating
mod Sixteen
pub mod States
mod Updates
mod Words
