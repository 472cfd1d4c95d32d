pub mod Words
pub mod ByClap
