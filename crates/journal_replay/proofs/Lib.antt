pub mod Again
pub mod Checkpoints
mod Gathering
mod PieceLemmas
mod Rebuilding
pub mod Replaying
pub mod Restoring
mod Runs
pub mod Taking
pub mod Told
