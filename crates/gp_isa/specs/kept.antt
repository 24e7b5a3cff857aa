-- Tables that the check and a program keep, and what they stand for.
pub mod Ways
pub mod Sizes
pub mod Blocks
pub mod Walks
