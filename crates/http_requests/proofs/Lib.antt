pub mod Growing
pub mod Judging
