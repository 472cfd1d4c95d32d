pub mod Numbers
pub mod Firsts
pub mod Lists
pub mod Serving
pub mod Served
pub mod Same
pub mod Known
pub mod Fits
