pub mod Driven
pub mod EndsDriven
