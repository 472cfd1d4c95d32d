pub mod Accepting
pub mod Listening
pub mod Memory
