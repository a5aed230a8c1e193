pub mod Pulls
pub mod Verifies
pub mod Others
