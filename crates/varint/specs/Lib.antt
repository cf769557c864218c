pub mod ByByte
pub mod Whole
pub mod Shortest
pub mod Write
pub mod Refuted
