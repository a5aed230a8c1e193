pub mod Picking
pub mod Merging
pub mod Joining
pub mod Wants
