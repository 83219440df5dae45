pub mod Links
pub mod Names
pub mod Slots
pub mod Moves
