mod Walking
mod Cursors
mod Linking
mod Alike
mod Naming
mod Listing
mod Staleness
mod Settling
