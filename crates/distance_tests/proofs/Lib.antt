pub mod Feet
pub mod Parted
pub mod Products
pub mod Distances
pub mod Zero
