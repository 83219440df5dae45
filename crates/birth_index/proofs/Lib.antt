mod Adding
mod Exchanging
mod Growing
mod Putting
mod Rooming
