pub mod HartSets
pub mod Needs
