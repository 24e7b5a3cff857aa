pub mod Asking
pub mod Loading
pub mod Refusing
pub mod Reporting
pub mod Putting
pub mod Summing
pub mod Heading
