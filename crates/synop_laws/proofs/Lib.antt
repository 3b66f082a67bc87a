-- The round trip of a report and what it promises.
pub mod Sections
pub mod Heads
pub mod Canonical
pub mod Promises
