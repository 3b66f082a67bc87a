pub mod Head
pub mod Runway
pub mod Temperatures
pub mod Values
