pub mod Moments
pub mod Times
pub mod Move
pub mod Midnight
