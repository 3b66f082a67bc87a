-- What the proofs of several functions use, and the laws for other crates.
pub mod Steps
pub mod Items
pub mod Changes
pub mod Sources
pub mod Trends
pub mod Every
