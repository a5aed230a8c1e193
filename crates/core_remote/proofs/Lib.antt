pub mod RemoteLemmas
pub mod Given
pub mod Told
