pub mod Replay
pub mod Outcome
pub mod Head
pub mod Choice
pub mod Walk
pub mod Looked
pub mod Answer
pub mod Crash
