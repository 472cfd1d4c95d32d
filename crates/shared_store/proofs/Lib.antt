pub mod Counting
pub mod Finding
pub mod Places
pub mod Sending
pub mod Steps
pub mod Taken
