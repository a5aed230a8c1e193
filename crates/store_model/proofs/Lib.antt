pub mod OnLiterals
mod ExampleBytes
mod SessionExamples
mod ArchiveExamples
mod LaneExamples
mod CollectorExamples
mod VerifyExamples
mod SyncExamples
mod AdminExamples
mod LoadExamples
pub mod Paths
pub mod Finding
pub mod LaneLemmas
pub mod Insertions
pub mod FileInsertions
pub mod StandsLemmas
pub mod GroupTimes
pub mod PiecesNamed
pub mod ListingLemmas
pub mod ManifestTexts
pub mod EndingLemmas
pub mod VerifyLemmas
pub mod Done
pub mod HeadLemmas
