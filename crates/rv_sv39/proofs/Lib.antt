pub mod CanonicalBits
pub mod Walking
