pub mod Source
pub mod Length
