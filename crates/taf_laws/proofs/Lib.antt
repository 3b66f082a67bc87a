-- The round trip of TAF: its periods, its rows and their places, a part, part after part, the text, and what that promises.
pub mod Periods
pub mod Places
pub mod Parts
pub mod Changes
pub mod Reports
pub mod Canonical
pub mod Promises
