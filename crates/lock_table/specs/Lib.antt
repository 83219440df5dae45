pub mod Names
pub mod Tables
pub mod Nodes
pub mod Holdings
pub mod Calls
pub mod Runs
