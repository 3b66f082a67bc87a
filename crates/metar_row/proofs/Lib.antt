-- The row as its tests say it, and the test that tells the groups apart.
pub mod Tests
pub mod Sound
