pub mod Codes
pub mod Table
pub mod Word
pub use Rattle.pl_base.specs.Width
