-- The laws for other crates.
pub mod Body
