pub mod Checks
pub mod Faults
pub mod Ports
pub mod Sessions
