pub mod Held
pub mod Ids
pub mod Kept
pub mod Lock
pub mod Queue
pub mod Steps
