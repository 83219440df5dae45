pub mod BasePlaces
pub mod Counts
pub mod Exchanges
pub mod HeldContents
pub mod Standing
