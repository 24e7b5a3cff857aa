pub mod Fault
pub mod Dump
pub mod Summary
