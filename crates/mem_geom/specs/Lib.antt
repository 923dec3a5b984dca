pub mod Layout
pub mod Laws
pub mod Parts
pub mod PathPlaces
pub mod Ranges
pub mod Tree
pub use Rattle.pl_base.specs.Bytes
pub use Rattle.pl_base.specs.Span
