mod Places
mod Numbers
mod Naming
pub mod Pools
mod FileLemmas
mod FinishChecks
mod StateSteps
mod Squares
mod Plainly
mod Stops
mod Lifting
pub mod Asked
