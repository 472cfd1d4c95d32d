pub mod Allowed
pub mod Changed
pub mod Each
pub mod Fitting
pub mod Kept
pub mod Readings
