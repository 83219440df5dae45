mod Pinned
mod Unused
