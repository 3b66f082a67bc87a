pub mod Times
pub mod Row
pub mod Tests
