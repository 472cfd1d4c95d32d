pub mod Passed
pub mod Running
