pub mod KeptIds
pub mod Actors
pub mod Nodes
