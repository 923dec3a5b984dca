pub mod Owners
pub use Rattle.pl_base.specs.Pages
