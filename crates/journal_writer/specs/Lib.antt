pub mod ChangeLaws
pub mod Changes
pub mod FirstLaws
pub mod Queues
pub mod Writers
pub mod Writes
