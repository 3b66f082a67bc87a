-- The laws of reading a trend.
pub mod Steps
pub mod Turns
