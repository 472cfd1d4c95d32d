pub mod Holding
pub mod Checkpointed
pub mod Saying
pub mod Changing
pub mod Shorter
pub mod Openings
pub mod OpeningSides
pub mod Looks
