-- The round trip of METAR and SPECI: the row's places, the whole report, its text, and what that promises.
pub mod Places
pub mod Report
pub mod Trends
pub mod TrendBack
pub mod Canonical
pub mod Promises
