pub mod Read
pub mod Said
pub mod Step
pub mod Write
