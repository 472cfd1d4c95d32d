pub mod Asked
pub mod Definitions
pub mod Elements
pub mod Queries
pub mod Reading
pub mod Seen
pub mod Sorting
pub mod Texts
