pub mod Likes
pub mod Parts
pub mod Searched
pub mod Verdicts
