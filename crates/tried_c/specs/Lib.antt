pub mod StreamNumbers
pub mod OneWayNumbers
pub mod LeafNumbers
