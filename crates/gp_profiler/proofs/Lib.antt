pub mod AddUp
pub mod MayEnter
