pub mod Frame
pub mod Opening
pub mod Goaway
