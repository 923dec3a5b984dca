pub mod PartPlaces
pub mod Parts
pub mod Places
pub mod Rows
pub mod Writes
