pub mod Entries
pub mod Joining
pub mod Kept
pub mod Lengths
pub mod Numbers
pub mod SetFlags
pub mod Taking
pub mod Waiting
