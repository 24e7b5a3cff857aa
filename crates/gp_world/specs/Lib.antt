pub mod RingEnds
pub mod Scene
pub mod Rows
pub mod Calls
pub mod kept
