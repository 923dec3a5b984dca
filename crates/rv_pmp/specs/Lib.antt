pub mod Decision
pub mod Pmp
pub mod Rule
pub use Rattle.mem_geom.specs.Layout
pub use Rattle.pl_base.specs.Perms
pub use Rattle.pl_base.specs.Span
pub use Rattle.pl_base.specs.Width
