pub mod Sessions
pub mod Outcomes
pub mod Uploading
pub mod Archiving
pub mod Changes
pub mod Finishing
pub mod Reading
