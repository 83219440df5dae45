pub mod Command
pub mod Numbers
pub mod Options
pub mod Requests
pub mod Words
