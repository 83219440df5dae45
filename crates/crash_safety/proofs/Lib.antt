mod ApartNodes
pub mod BaseStays
pub mod Beside
mod CalledLeaves
pub mod Calls
pub mod ElsewhereParts
pub mod Flushed
pub mod Flushing
mod FoundLeaves
pub mod FoundRoots
mod FrozenLeaf
mod GivenUpLeaves
pub mod Images
pub mod InFlight
pub mod LeafReads
pub mod Meanings
pub mod Mirrored
mod NamedLeaves
pub mod NamedRoots
mod NineBtrees
pub mod NineRoots
pub mod NodesLeft
pub mod OnEach
pub mod OneOf
pub mod OneBtree
pub mod OtherBlock
pub mod OtherBuckets
mod OwnBuckets
pub mod PartsMade
mod PinnedMore
mod PlacedLeaves
pub mod Places
pub mod Safe
mod SameLeaves
pub mod Settled
mod SettledLeaves
pub mod Shifting
pub mod Steps
pub mod Whole
mod WrittenLeaf
pub mod WrittenParts
