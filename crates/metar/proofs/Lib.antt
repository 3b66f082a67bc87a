-- The laws of reading.
pub mod Steps
