pub mod CuttingLemmas
pub mod FramesLemmas
pub mod WritingLemmas
