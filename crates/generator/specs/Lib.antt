pub mod Pieces
pub mod Archives
pub mod Manifests
pub mod Json
pub mod Sessions
pub mod Summaries
pub mod Laws
