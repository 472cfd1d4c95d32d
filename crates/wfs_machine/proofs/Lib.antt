pub mod Carrying
pub mod Changes
pub mod Laying
pub mod Places
pub mod Stores
pub mod Takings
pub mod Telling
pub mod Typed
