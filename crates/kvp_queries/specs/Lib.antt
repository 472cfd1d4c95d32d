pub mod Asking
pub mod Lists
pub mod Pairs
pub mod Request
pub mod Selection
pub mod Sorting
