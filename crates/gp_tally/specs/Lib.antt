pub mod Rows
pub mod kept
