pub mod Attacks
pub mod Kept
pub mod Lines
pub mod Laws
pub mod Room
pub use Rattle.mem_ctl.specs.Data
pub use Rattle.pl_history.specs.Attacking
pub use Rattle.pl_history.specs.History
