pub mod Lines
pub mod Puts
pub mod Runs
pub mod Calls
pub mod Plays
