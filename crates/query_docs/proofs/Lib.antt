pub mod Kept
pub mod Keys
pub mod Makes
pub mod Names
pub mod Prefixes
pub mod Queries
pub mod Sound
pub mod Within
