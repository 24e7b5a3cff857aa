pub mod Choice
pub mod ChoiceLaw
pub mod kept
