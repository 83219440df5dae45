pub mod Volumes
pub mod Faults
pub mod Answers
pub mod Changes
pub mod Nodes
pub mod Twins
