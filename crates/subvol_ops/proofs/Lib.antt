pub mod Chains
pub mod Gathered
pub mod Listed
pub mod Looked
pub mod MadeUpdates
pub mod Moved
