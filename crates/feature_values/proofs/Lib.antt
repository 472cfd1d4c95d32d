pub mod Dots
pub mod Each
pub mod Numerals
pub mod Spaces
