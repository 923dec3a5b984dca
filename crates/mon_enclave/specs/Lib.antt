pub mod Records
pub use Rattle.pl_base.specs.Refusals
pub use Rattle.pl_base.specs.States
pub use Rattle.rv_alone.specs.Alone
pub use Rattle.rv_alone.specs.Flat
