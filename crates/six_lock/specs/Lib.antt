pub mod Modes
pub mod Locks
