-- Laws of wind, variation and visibility.
pub mod Readings
pub mod VisibilityLaws
pub mod SpeedLaws
pub mod RoundTripWind
pub mod RoundTripVariation
pub mod RoundTripVisibility
pub mod Promises
