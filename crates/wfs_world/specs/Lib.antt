pub mod Events
pub mod Happening
pub mod Kept
pub mod Laws
pub mod Scene
pub mod Sound
pub mod Turns
