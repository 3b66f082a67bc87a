-- The row as its tests see it, and the test that tells the groups apart.
pub mod Tests
pub mod Sound
