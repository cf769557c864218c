pub mod Promises
pub mod Layout
pub mod Lent
pub mod Rows
pub mod Search
pub mod Writes
pub mod Once
pub mod Refuted
