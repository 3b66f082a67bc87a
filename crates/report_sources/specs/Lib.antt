pub mod Source
pub mod Forecasts
pub mod Surface
