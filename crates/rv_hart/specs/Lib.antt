pub mod Learning
pub mod Seeking
pub mod Translation
pub mod Walks
pub use Rattle.pl_base.specs.Address
pub use Rattle.rv_sv39.specs.Step
pub use Rattle.rv_sv39.specs.Walk
pub use Rattle.rv_tlb.specs.Tlb
