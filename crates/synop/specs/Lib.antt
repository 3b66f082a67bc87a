pub mod Read
pub mod Head
pub mod Write
