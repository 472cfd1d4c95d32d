pub mod Counts
pub mod Leaving
pub mod Marks
pub mod Named
pub mod Selected
pub mod Stores
pub mod Taken
pub mod Transactions
