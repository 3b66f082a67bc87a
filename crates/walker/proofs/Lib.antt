-- The laws of a walk, for other crates.
-- Assumes nothing.
pub mod Walks
