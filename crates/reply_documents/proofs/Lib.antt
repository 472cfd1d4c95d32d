mod Pairs
mod Types
