-- The laws for other crates, and worked examples.
pub mod Steps
pub mod Known
pub mod Items
pub mod Words
pub mod Sources
pub mod Changes
pub mod Every
pub mod Examples
