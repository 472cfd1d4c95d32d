pub mod Giving
pub mod Seating
pub mod Serving
