pub mod Collection
pub mod Features
pub mod Head
pub mod Locks
pub mod Refusals
pub mod ReplyText
pub mod StoredQueries
pub mod Transacted
