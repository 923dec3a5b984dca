pub mod DistinctPages
mod HartSets
pub mod ListedWords
