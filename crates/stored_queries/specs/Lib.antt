pub mod Answered
pub mod Kinds
pub mod Listed
pub mod Meant
pub mod Paged
