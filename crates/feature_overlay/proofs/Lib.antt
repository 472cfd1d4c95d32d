pub mod Firsts
pub mod Fitting
pub mod Keeping
pub mod Layings
pub mod Mapped
pub mod Nearby
pub mod Ordered
pub mod Rising
