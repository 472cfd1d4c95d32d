pub mod Answers
pub mod Became
pub mod Rounds
pub mod Session
pub mod Solo
pub mod Told
