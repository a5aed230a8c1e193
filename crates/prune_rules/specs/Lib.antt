pub mod Prune
pub mod Slots
