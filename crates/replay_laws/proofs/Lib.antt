pub mod Differing
pub mod Equal
pub mod Lockstep
pub mod Saying
