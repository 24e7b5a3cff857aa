pub mod Texts
pub mod Digits
pub mod Lists
pub mod Sound
pub mod Taking
pub mod Ranges
pub mod Commands
pub mod Lemmas
