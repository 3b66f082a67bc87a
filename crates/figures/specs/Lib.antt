pub mod Quote
pub mod Figures
pub mod Put
pub mod Signed
