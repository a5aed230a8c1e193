pub mod Shown
pub mod Contents
pub mod Loading
pub mod Rows
pub mod Pulling
