pub mod Adding
pub mod Asking
pub mod Entering
pub mod Fronts
pub mod Rules
pub mod Schemas
pub mod Sending
pub mod Showing
