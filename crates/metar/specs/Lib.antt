pub mod Read
pub mod Write
pub mod Said
pub mod Step
