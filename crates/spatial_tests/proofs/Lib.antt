pub mod Paths
pub mod Apart
