pub mod Over
pub mod Report
pub mod Steps
pub mod Turns
