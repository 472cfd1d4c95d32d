pub mod Acting
pub mod Aims
pub mod Fitting
pub mod Folding
pub mod Found
pub mod Marks
pub mod Refused
pub mod Turning
