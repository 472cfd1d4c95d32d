pub mod Fitting
pub mod Keeping
pub mod Making
pub mod Middle
mod Numerals
pub mod Playable
pub mod Playing
pub mod Refusing
pub mod Sound
pub mod Stepping
