-- What is written of runway states is read back, keeps its place, and how near it is.
pub mod Figured
pub mod StateBack
pub mod StatesBack
pub mod StatesKept
pub mod Promises
