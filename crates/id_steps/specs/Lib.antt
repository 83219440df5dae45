pub mod Changes
pub mod Entries
pub mod Examples
pub mod Ids
pub mod SlotLists
pub mod Steps
