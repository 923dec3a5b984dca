pub mod ConditionLemmas
pub mod OpeningLemmas
pub mod OverLemmas
pub mod ReportLemmas
pub mod RoundLemmas
pub mod TranslationConditions
pub mod TurnLemmas
