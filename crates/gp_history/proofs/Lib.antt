pub mod Entered
pub mod Noted
pub mod Keeping
