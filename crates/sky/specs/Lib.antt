pub mod Answers
pub mod Judge
