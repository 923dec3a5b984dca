mod BreakLemmas
mod RecordLemmas
