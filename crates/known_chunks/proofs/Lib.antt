mod Entries
pub mod Pools
