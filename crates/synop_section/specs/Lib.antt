pub mod Section
pub mod Answer
