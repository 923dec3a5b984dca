pub mod PutsLemmas
mod Fronts
mod HexSteps
mod Rooms
mod RoundTrips
mod TwoReads
