pub mod States
pub mod Asked
pub mod Indexes
pub mod Entries
pub mod Files
pub mod Taken
