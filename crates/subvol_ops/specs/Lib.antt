pub mod Listing
pub mod Plans
pub mod Slots
