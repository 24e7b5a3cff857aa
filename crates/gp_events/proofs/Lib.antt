pub mod Growing
pub mod Entered
pub mod InOrder
pub mod Comparing
pub mod Total
pub mod Words
pub mod Lemmas
