pub mod Fits
pub mod Ids
pub mod Order
pub mod Reads
