pub mod Carried
pub mod Kept
pub mod Ordered
pub mod Told
