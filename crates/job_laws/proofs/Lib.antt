pub mod ByTheList
pub mod FirstRefusals
pub mod BadFiles
pub mod Refused
pub mod Judged
pub mod Sound
pub mod Finished
mod PullExamples
mod VerifyExamples
pub mod Ordered
pub mod Changes
pub mod Leaving
pub mod Besides
pub mod Told
pub mod SentOnce
