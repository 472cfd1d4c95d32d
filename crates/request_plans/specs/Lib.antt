pub mod Carried
pub mod Coming
pub mod Divided
pub mod Marks
pub mod Plan
pub mod Transacted
