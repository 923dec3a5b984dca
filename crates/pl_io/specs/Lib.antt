pub mod Causes
pub mod Bytes
pub mod Held
pub mod Numbers
pub mod Puts
pub mod Pieces
