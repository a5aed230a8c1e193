pub mod FieldLaws
pub mod RowLaws
pub mod RefusalFields
pub mod BodyLaws
pub mod EntryLaws
pub mod ListFields
pub mod ManyLaws
pub mod RefusalLaws
pub mod CommandLaws
pub mod ReplyLaws
pub mod OnLiterals
pub mod Hexadecimal
mod Examples
pub mod InputLaws
