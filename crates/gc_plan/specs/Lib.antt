pub mod Plan
pub mod Stages
