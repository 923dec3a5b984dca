pub mod EntryLemmas
pub mod LoadLemmas
pub mod MeasureLemmas
pub mod SoloLemmas
pub mod TopLemmas
