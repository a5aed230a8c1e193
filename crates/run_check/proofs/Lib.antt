pub mod Causes
pub mod Ended
pub mod Outs
pub mod PortLemmas
