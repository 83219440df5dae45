pub mod Copying
pub mod Counted
pub mod Cutting
pub mod Joining
pub mod Looks
pub mod Made
pub mod Sized
