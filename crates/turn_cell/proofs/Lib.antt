pub mod Views
pub mod Prefixes
pub mod Standings
pub mod Turns
pub mod Passing
