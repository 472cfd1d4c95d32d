pub mod Answering
pub mod Failures
pub mod Rounds
pub mod Sessions
pub mod Stores
pub mod Tallies
