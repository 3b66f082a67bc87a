pub mod Row
pub mod Tests
