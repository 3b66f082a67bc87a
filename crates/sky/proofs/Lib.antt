-- The laws of the sky, for the proofs of several functions and for other crates.
-- Assumes nothing.
pub mod Heights
pub mod Judging
pub mod Writings
pub mod Groups
pub mod RoundTrip
pub mod Promises
