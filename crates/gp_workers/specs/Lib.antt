pub mod Named
pub mod Actors
pub mod Beginning
pub mod kept
