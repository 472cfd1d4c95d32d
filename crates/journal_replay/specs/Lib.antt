pub mod Change
pub mod Checkpoint
pub mod Left
pub mod Pieces
pub mod Rebuilt
pub mod Replayed
pub mod Written
