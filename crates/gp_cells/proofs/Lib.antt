pub mod WordFacts
pub mod Keeping
pub mod Slots
