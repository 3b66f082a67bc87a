-- The writer takes what the reader gives: of every accepted text the record is judged fine, and written it is read back as the same record, its aerodrome
-- wind speeds from P on said more openly.
pub mod Gives
pub mod Stages
pub mod Reports
pub mod Fields
pub mod Values
pub mod Winds
pub mod Weathers
pub mod Filled
pub mod Skies
pub mod Common
pub mod Bodies
pub mod Groups
pub mod Tafs
pub mod Trends
pub mod Metars
pub mod Tells
pub mod Surfaces
pub mod SectionThree
pub mod Synops
