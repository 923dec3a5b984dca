pub mod DigestBytes
pub mod Digester
pub mod Nodes
pub mod Trees
pub use Rattle.pl_base.specs.Bytes
