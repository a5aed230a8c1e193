pub mod Noting
pub mod Calling
pub mod Carried
pub mod Cutting
pub mod Filled
pub mod Opened
pub mod Standing
