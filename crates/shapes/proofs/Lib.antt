-- The laws that other crates use.
pub mod Patterns
pub mod Splits
pub mod Begins
pub mod Scans
pub mod Prints
pub mod Exact
pub mod Filled
pub mod Shapes
