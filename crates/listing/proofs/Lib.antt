pub mod Phases
pub mod Lists
pub mod Falls
pub mod Put
