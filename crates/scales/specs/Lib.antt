pub mod Scale
pub mod Metres
pub mod Depth
pub mod Layers
pub mod Rounded
pub mod Degrees
pub mod Fields
