pub mod Volumes
pub mod Answers
pub mod Beginning
pub mod Mending
pub mod Opening
pub mod NodeUpdates
pub mod Roots
pub mod Untorn
