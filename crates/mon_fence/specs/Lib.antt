pub mod Fences
pub use Rattle.pl_base.specs.HartSet
