pub mod Plane
pub mod Segments
pub mod Rings
pub mod Shapes
pub mod Places
pub mod Extents
pub mod Blocks
pub mod Valid
