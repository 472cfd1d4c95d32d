pub mod Flats
pub mod Halving
