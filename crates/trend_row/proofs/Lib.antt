-- The laws of the row of a trend's change, the test that tells its groups apart, and that it keeps what is written of a change.
pub mod Rows
pub mod Sound
pub mod TimesBack
pub mod Changes
