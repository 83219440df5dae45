mod Contents
mod LevelsRead
mod BtreesRead
pub mod EndsRead
mod OwnBirths
mod FoundKeys
mod ChangedNodes
mod Made
mod Making
mod Loading
pub mod Images
pub mod Sessions
pub mod Handed
pub mod NextSession
pub mod MendedEntry
pub mod MendedMeaning
pub mod Opened
mod LoadedFront
pub mod RootsRead
pub mod ShownSets
pub mod MendedSets
pub mod RootPlaces
pub mod MendedRoots
pub mod SameRoots
pub mod RootsShown
pub mod OpenedRoots
pub mod OpenedVolume
