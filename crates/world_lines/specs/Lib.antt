pub mod Words
pub mod Arguments
pub mod PageLists
pub mod Forms
pub mod Entries
pub mod Order
