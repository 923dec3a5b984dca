pub mod Space
pub mod SpaceWalks
pub mod Words
pub mod Tables
pub use Rattle.pl_base.specs.Perms
pub use Rattle.rv_sv39.specs.Walk
