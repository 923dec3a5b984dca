pub mod Ends
pub mod Measure
pub mod Play
pub mod Top
pub mod Unread
