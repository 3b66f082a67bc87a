-- What the proofs of several functions use, and the laws for other crates.
pub mod Steps
pub mod Walks
pub mod Tells
pub mod Sections
pub mod Items
pub mod Heads
pub mod Layers
pub mod Sources
pub mod Every
pub mod EveryLayer
