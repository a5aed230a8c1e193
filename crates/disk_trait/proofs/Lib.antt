pub mod Kept
pub mod NameSets
pub mod Remaking
pub mod CrashLemmas
pub mod OnlyReading
