pub mod Words
pub mod Place
pub mod Room
pub mod Spelling
