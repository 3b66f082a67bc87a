-- The laws that other crates use.
pub mod Readings
pub mod HeadBack
pub mod HeadKept
pub mod Printed
pub mod RunwayBack
pub mod RunwaysBack
pub mod TemperaturesBack
pub mod Judgings
pub mod Writings
pub mod Promises
