pub mod Counters
pub mod Knowing
pub mod Openings
pub mod Published
pub mod Seats
pub mod Turns
