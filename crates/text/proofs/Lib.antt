-- The laws of a text and its groups, for the proofs of several functions and for other crates.
-- Assumes nothing.
pub mod Leads
pub mod Groups
pub mod Parts
pub mod Texts
pub mod Joins
pub mod Writes
pub mod Judging
pub mod Numbers
