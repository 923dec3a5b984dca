pub mod Roots
pub use Rattle.pl_digest.specs.Nodes
