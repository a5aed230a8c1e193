pub mod Handing
pub mod Steps
pub mod Dynamic
pub mod Fixed
pub mod Reading
pub mod Index
pub mod Laws
pub mod Calls
