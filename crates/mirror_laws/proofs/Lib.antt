pub mod KeptSets
pub mod LostBlocks
pub mod DegradedNodes
pub mod DegradedJournal
pub mod DegradedMeaning
pub mod MergedImages
pub mod OnAll
