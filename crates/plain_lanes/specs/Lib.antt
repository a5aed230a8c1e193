pub mod Closes
pub mod Visits
pub mod Pulls
pub mod Uploading
pub mod Stages
pub mod Jobs
pub mod Nexts
