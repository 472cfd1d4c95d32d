pub mod Texts
pub mod Shapes
pub mod Geometries
pub mod Schemas
pub mod Literals
pub mod Predicates
pub mod Operators
pub mod Spelled
