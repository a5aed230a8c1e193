mod Texts
mod PartLemmas
mod Calling
pub mod Indexed
pub mod Opened
pub mod Archives
pub mod PathLengths
pub mod Placing
pub mod Losing
pub mod Removals
pub mod Leaving
pub mod StandingLemmas
pub mod Joined
pub mod Damage
pub mod FoundLemmas
pub mod Named
pub mod Listing
pub mod Ordered
pub mod GroupKeys
pub mod Rising
pub mod Manifests
pub mod Mapped
pub mod Contents
mod FileLists
pub mod Loading
pub mod Endings
pub mod Slashes
pub mod Telling
pub mod Orphans
pub mod Names
pub mod Leavers
pub mod Listed
pub mod Answering
pub mod Openings
