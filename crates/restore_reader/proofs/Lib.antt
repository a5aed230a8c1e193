pub mod Apart
pub mod Bytes
mod Tables
pub mod Plainly
pub mod Opened
