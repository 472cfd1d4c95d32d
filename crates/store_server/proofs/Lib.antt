mod Fitting
mod FreshSeats
mod Leaving
mod Lists
mod Stacks
mod Views
