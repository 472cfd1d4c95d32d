pub mod Closing
pub mod Filling
pub mod Ranges
pub mod Standing
