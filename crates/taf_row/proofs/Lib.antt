-- The laws of a part's row, and the test that tells the groups apart.
pub mod Rows
pub mod Sound
