pub mod Tables
pub mod State
