pub mod Canonical
pub mod Step
pub mod Walk
pub mod Word
pub use Rattle.pl_base.specs.Address
pub use Rattle.pl_base.specs.Perms
