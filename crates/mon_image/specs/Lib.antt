pub mod Measurement
pub use Rattle.sha2.specs.Sha256
