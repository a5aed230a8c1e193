pub mod Crash
pub mod InstallLaws
