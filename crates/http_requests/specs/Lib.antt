pub mod Asks
pub mod Verdicts
