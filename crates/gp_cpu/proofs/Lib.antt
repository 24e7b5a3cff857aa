pub mod Growing
pub mod Entered
pub mod Counting
pub mod Batching
pub mod Pieces
pub mod Staying
pub mod Sampling
