pub mod Members
pub mod Pinning
pub mod Marking
pub mod Putting
pub mod Moving
pub mod Splitting
pub mod Records
pub mod Following
