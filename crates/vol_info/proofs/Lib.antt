pub mod FoundBtrees
pub mod UsedBuckets
