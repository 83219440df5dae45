pub mod Due
pub mod Durable
pub mod Freezing
pub mod NodeWork
pub mod NodeWrites
pub mod Placing
