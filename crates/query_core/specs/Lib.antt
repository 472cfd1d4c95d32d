pub mod Finding
pub mod Keyed
pub mod Paging
pub mod Selecting
pub mod Sorting
pub mod Steps
