pub mod RecordLists
pub mod SharedPages
