pub mod Firsts
pub mod Openings
pub mod Places
