pub mod AcknowledgingLemmas
pub mod EventLemmas
