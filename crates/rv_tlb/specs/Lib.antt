pub mod Tlb
pub use Rattle.pl_base.specs.Address
