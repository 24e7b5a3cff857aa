pub mod Tables
pub mod Ranks
pub mod Spelled
pub mod Ids
