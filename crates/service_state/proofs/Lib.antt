pub mod Alive
pub mod Carried
pub mod Counters
pub mod Filling
pub mod Judging
pub mod Making
pub mod Playing
pub mod Telling
