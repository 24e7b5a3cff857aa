pub mod Views
pub mod CellRule
pub mod Plays
pub mod Hands
pub mod Refusals
