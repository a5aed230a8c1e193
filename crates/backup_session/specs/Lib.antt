pub mod Indexes
pub mod Session
pub mod Steps
pub mod Shown
pub mod Answers
pub mod Kept
pub mod Calls
pub mod Finish
