pub mod Pattern
pub mod Shape
