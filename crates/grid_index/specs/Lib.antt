pub mod Cells
pub mod Counts
pub mod Found
pub mod Gridded
pub mod Lists
pub mod Near
pub mod Places
pub mod Room
