pub mod Apart
pub mod Immediates
pub mod Rows
pub mod Same
pub mod Spelled
mod Signed
