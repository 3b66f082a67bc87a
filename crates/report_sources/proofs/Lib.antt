-- The theorems: where each item was read from.
pub mod Provenance
pub mod Forecasts
pub mod SurfaceProvenance
pub mod Every
pub mod SurfaceEvery
