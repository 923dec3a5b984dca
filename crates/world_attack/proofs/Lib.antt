mod AttackCases
pub mod KeptLemmas
pub mod LegalLemmas
pub mod LineLemmas
pub mod RoomLemmas
pub mod WriteLemmas
