pub mod Base
pub mod Elements
pub mod Locking
pub mod Operations
pub mod Paging
pub mod Said
pub mod Stored
