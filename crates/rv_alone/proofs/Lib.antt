pub mod Accesses
pub mod AloneLemmas
pub mod Later
pub mod Pages
pub mod WrittenPages
