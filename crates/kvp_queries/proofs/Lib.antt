pub mod Finds
pub mod Kept
pub mod Keys
pub mod Requests
pub mod Sound
pub mod Splits
