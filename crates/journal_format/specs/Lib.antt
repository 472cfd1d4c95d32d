pub mod Numbers
pub mod Spelling
pub mod Reading
pub mod Writable
pub mod RoundTrip
