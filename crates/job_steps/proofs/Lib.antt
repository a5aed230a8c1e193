pub mod RowLemmas
pub mod ItemLemmas
pub mod Texts
pub mod JudgingLemmas
pub mod BatchLemmas
pub mod VerifyLemmas
pub mod StateLemmas
