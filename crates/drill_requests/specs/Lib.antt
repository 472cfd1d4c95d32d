pub mod Carried
pub mod Drawn
pub mod Fitting
pub mod Requests
pub mod Rounds
