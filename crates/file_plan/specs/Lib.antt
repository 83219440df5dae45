pub mod BlockIo
pub mod Sizes
pub mod Runs
pub mod Ends
pub mod Content
pub mod Writes
pub mod Seen
pub mod Bounds
