pub mod Positions
pub mod Changes
pub mod Tallies
pub mod Owners
pub mod Stamps
pub mod Expanding
pub mod Follows
pub mod Bounds
