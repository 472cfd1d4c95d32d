pub mod Answers
pub mod Behind
pub mod Created
pub mod Found
pub mod Pages
pub mod Readings
pub mod Turns
