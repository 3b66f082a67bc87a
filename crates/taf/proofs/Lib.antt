-- The laws of reading.
pub mod Steps
pub mod Turns
