pub mod Listing
pub mod Outcomes
pub mod Plans
pub mod Statuses
pub mod Updating
