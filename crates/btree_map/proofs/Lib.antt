mod Carried
mod Updating
mod Fresh
mod Making
mod Meeting
mod Planning
mod Bearing
mod Choosing
