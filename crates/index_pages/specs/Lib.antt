pub mod Paged
pub mod Gives
pub mod Calls
pub mod Opening
