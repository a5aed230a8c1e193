pub mod PieceLemmas
pub mod CommandTexts
pub mod SessionLemmas
pub mod JsonLemmas
