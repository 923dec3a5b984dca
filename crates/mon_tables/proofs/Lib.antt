pub mod HostWalks
pub mod LeafSets
mod LeafWords
pub mod Mappings
pub mod NumberWalks
mod Reaching
pub mod StartWords
pub mod WordBits
