pub mod Counted
pub mod Blanks
pub mod SurfaceBlanks
pub mod AerodromeBlanks
pub mod Near
