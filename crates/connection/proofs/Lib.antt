pub mod Ways
pub mod Pair
pub mod Worked
