pub mod Values
pub use Rattle.rv_insn.specs.Word
