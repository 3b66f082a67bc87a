pub mod Trail
pub mod Route
