pub mod Content
pub mod Pairs
pub mod Publishers
pub mod Rules
pub mod Viewers
pub mod Whole
