pub mod InDocument
pub mod RoundTrip
