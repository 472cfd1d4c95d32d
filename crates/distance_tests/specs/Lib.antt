pub mod Gaps
pub mod Within
