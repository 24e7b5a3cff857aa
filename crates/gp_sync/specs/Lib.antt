pub mod Operations
pub mod Places
pub mod WaitState
pub mod kept
