pub mod File
pub mod Rules
pub mod Signature
pub mod Tables
pub mod Texts
