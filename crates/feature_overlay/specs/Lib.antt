pub mod Changed
pub mod First
pub mod Laid
pub mod Views
