pub mod Parts
pub mod Judge
pub mod Wind
pub mod Visibility
pub mod Weather
pub mod Sky
pub mod Answers
pub mod Body
