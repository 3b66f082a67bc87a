-- What the proofs of several functions use, and the laws for other crates.
pub mod Rows
pub mod Parts
pub mod Items
pub mod Walks
pub mod Fields
pub mod Texts
pub mod Own
pub mod Every
