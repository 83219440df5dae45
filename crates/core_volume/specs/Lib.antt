pub mod Volumes
pub mod Rulings
pub mod Commits
pub mod Uncommitted
pub mod Opening
pub mod Sealing
pub mod HoldLaws
pub mod Checkpoints
