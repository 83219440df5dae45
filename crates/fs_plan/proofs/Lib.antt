pub mod Bounds
pub mod Gathered
pub mod Idle
pub mod Listed
pub mod Outcomes
pub mod Told
