pub mod CapabilitiesDocument
pub mod InTurn
pub mod SchemaDocument
