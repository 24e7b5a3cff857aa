pub mod Goroutine
pub mod Peek
pub mod Word
pub mod Body
pub mod Record
pub mod kept
