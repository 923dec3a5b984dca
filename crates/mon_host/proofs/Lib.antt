pub mod EventLemmas
pub mod LawLemmas
pub mod LeafLemmas
pub mod RefusalLemmas
pub mod SpaceLemmas
pub mod StartLemmas
pub mod WordLemmas
