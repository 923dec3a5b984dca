pub mod FirstWords
pub mod HexTexts
pub mod Ranges
pub mod Passes
pub mod FormLemmas
pub mod EntryLemmas
pub mod OrderLemmas
