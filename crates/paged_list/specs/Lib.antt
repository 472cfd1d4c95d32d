pub mod Flat
pub mod Pages
